use Rattle.std.proofs.Common.{Ok}
use Rattle.losses.specs.Rows.{rows_in}
use Rattle.losses.proofs.Laws.{order_kept}
use Rattle.losses.proofs.table.Table.note.Goals as goal

pub returns-clause-order : goal.returns-clause-order
returns-clause-order g c = λ sorted.
    order_kept g.R.Row.key_of g.R.Tally.row_of g.R.Tally.next_of g.met.R.Tally.goes_on
    (rows_in c.args.self.now.rows.now c.args.self.now.taken) (rows_in c.note_in.new.rows c.in_ok-self.field-0) c.args.noting (Ok tt) sorted (c.in_ok-self.ensures sorted)
