use Rattle.std.proofs.Common.{◌≡◌, Some, take, sym, ◌∙◌, ap}
use Rattle.std.specs.Option.{ok_or}
use Rattle.losses.specs.declared.refusal.TableRefusal.TheVariants.{NoSuchRow}
use Rattle.losses.specs.Rows.{row_with}
use Rattle.losses.proofs.Notings.{row_found}
use Rattle.losses.proofs.table.Table.look_up.Goals as goal

pub returns-in-Ok-clause-found : goal.returns-in-Ok-clause-found
returns-in-Ok-clause-found g c = λ sorted.
    let rows = take c.args.self.now.taken c.args.self.now.rows.now in
    let said = rw c.rows-rows.ensures.rows at c.in-Ok.ensures in
    let read = rw c.rows-rows.ensures.rows at c.index-rows-at.is in
    let found : row_with g.R.Row.key_of c.args.key rows ≡ Some c.index-rows-at.result =
    row_found g.R.Row.key_of c.args.key rows c.in-Ok.at c.index-rows-at.result said.0 read (said.1 sorted) in
    ap (λ o. ok_or o NoSuchRow) (sym found)

pub returns-in-Ok-clause-law : goal.returns-in-Ok-clause-law
returns-in-Ok-clause-law g c = λ ns log.
    let law = c.rows-rows.ensures.law ns log in
    returns-in-Ok-clause-found g c law.ascending ∙ ap (λ o. ok_or o NoSuchRow) (law.each c.args.key)
