use Rattle.std.proofs.Common.{refl}
use Rattle.losses.proofs.Opened.{opened}
use Rattle.losses.proofs.table.open_row.Goals as goal

pub returns : goal.returns
returns g c = opened c.args.rows.now c.args.taken c.args.at _ c.args.row _ c.rotate_right.new.self c.requires.at_most c.requires.room refl refl c.rotate_right.ensures.after
