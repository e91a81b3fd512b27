use Rattle.std.proofs.Common.{Some, sym, ap, ◌∙◌, w32, SFits}
use Rattle.std.proofs.lemmas.Int.{to_z-of_z}
use Rattle.kind_analog.specs.Settings.{step_of}
use Rattle.kind_analog.proofs.Values.{value_in}
use Rattle.kind_analog.proofs.samples.Samples.value_at.Goals as goal

pub returns : goal.returns
returns c =
    let s = c.args.self.now in
    let fits : SFits w32 c.value_of.result = record { sfits = c.value_of.type_inv } in
    value_in (step_of s.factor) s.bytes.now c.args.index c.requires ∙ ap Some (sym (to_z-of_z w32 _ fits ∙ c.value_of.ensures))
