use Rattle.losses.proofs.Laws.{law_of}
use Rattle.losses.proofs.table.Table.rows.Goals as goal

pub returns-clause-law : goal.returns-clause-law
returns-clause-law g c = λ ns log. law_of g.R.Row.key_of g.R.Tally.row_of g.R.Tally.next_of g.met.R.Tally.goes_on log
