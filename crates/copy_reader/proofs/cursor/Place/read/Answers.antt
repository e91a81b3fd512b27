use Rattle.std.proofs.Common.{◌≡◌, ◌+◌, ◌∷◌, Ok, sym, ap, ◌∙◌, arith}
use Rattle.tecmp.specs.Views.{found}
use Rattle.copy_reader.specs.Cursors.{entries_left}
use Rattle.copy_reader.proofs.Handing.{Taken, taken}
use Rattle.copy_reader.proofs.cursor.Place.read.Given as given
use Rattle.copy_reader.proofs.cursor.Place.read.Goals as goal
use Rattle.copy_reader.proofs.cursor.Place.read.Goals.{In-Ok-Some}

step : (g : given.Over) (c : In-Ok-Some g) → Taken g.R.Registry.services c.args.self c.in-Ok-Some.read.entry c.in-Ok-Some.read.next
step g c =
    let read = c.in-Ok-Some.read in
    taken g.R.Registry.services c.args.self read.entry read.next (sym c.in-Ok-Some.ensures ∙ ap (λ o. Ok (found o)) c.in-Ok-Some.field-0-is) c.requires.0

pub overflow_add-entry : goal.overflow_add-entry
overflow_add-entry g c =
    let i = step g ((goal.at.overflow_add-entry g c).In-Ok-Some) in
    omega (arith, i.inside, c.requires.1)

pub returns-in-Ok-Some : goal.returns-in-Ok-Some
returns-in-Ok-Some g c =
    let i = step g ((goal.at.returns-in-Ok-Some g c).In-Ok-Some) in
    let v = c.in-Ok-Some.read.entry in
    let e : c.args.self.base + v.data_offset ≡ v.data_offset + c.args.self.base = omega arith in
    (i.left ∙ ap (λ n. record { code = v.code; interface = v.interface; time = v.time; flags = v.flags; bytes = v.«data».now; from = n } ∷ entries_left g.R.Registry.services (record { packet = c.args.self.packet; base = c.args.self.base; offset = c.in-Ok-Some.read.next })) e, (i.passed, c.requires.1))
