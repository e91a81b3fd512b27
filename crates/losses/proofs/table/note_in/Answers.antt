use Rattle.std.proofs.Common.{◌≡◌, ap, sym, ◌∙◌}
use Rattle.losses.specs.Rows.{key_noted}
use Rattle.losses.proofs.Notings.{note_found, note_new}
use Rattle.losses.proofs.table.note_in.Goals as goal

pub returns-in-Ok : goal.returns-in-Ok
returns-in-Ok g c = λ sorted.
    let same_key : c.key.result ≡ key_noted g.R.Row.key_of g.R.Tally.row_of c.args.noting = c.key.ensures ∙ ap g.R.Row.key_of c.first-first.ensures in
    let said = rw (c.first_rows.ensures, same_key) at c.in-Ok.ensures in
    note_found g.R.Row.key_of g.R.Tally.row_of g.R.Tally.next_of c.args.rows.now c.args.taken c.args.noting c.in-Ok.at
    c.index-rows-at.result c.next.result said.0 (said.1 sorted) c.index-rows-at.is
    (c.next.ensures ∙ ap (λ r. g.R.Tally.next_of r c.args.noting) (sym c.index-rows-at.is))

pub returns-else-taken-rows : goal.returns-else-taken-rows
returns-else-taken-rows g c = λ sorted.
    let same_key : c.key.result ≡ key_noted g.R.Row.key_of g.R.Tally.row_of c.args.noting = c.key.ensures ∙ ap g.R.Row.key_of c.first-first.ensures in
    let said = rw (c.first_rows.ensures, same_key) at c.in-Err.ensures in
    note_new g.R.Row.key_of g.R.Tally.row_of g.R.Tally.next_of c.args.rows.now c.args.taken c.args.noting c.in-Err.at
    c.first-first.result c.open_row.new.rows said.0 c.if-taken-rows.false (said.1 sorted) c.first-first.ensures c.open_row.ensures
