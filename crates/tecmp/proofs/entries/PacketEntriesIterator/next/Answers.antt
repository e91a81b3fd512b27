use Rattle.std.proofs.Common.{Some, Ok, sym, refl, ap, ◌∙◌, arith}
use Rattle.tecmp.specs.Steps.{read_from}
use Rattle.tecmp.specs.Views.{found, read_as}
use Rattle.tecmp.proofs.Walks.{step_found}
use Rattle.tecmp.proofs.entries.PacketEntriesIterator.next.Goals as goal

pub returns-in-Ok-Some-clause-goes : goal.returns-in-Ok-Some-clause-goes
returns-in-Ok-Some-clause-goes g c =
    let services = g.R.Registry.services in
    let s = c.args.self.now in
    let read = c.in-Ok-Some.read in
    let was = ap (read_from services s.packet) (sym c.take.ensures.value ∙ c.in_ok-offset.was) ∙ sym c.in-Ok-Some.ensures ∙ ap (λ o. Ok (found o)) c.in-Ok-Some.field-0-is in
    let step = step_found services s (read_as read) (record s { next = Some read.next }) was refl refl in
    record { on = λ _. (tt, tt, omega (arith, step.fewer)); keeps = tt; rests = λ _. tt }
