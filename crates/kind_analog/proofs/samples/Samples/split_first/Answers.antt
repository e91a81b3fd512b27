use Rattle.std.proofs.Common.{w32, SFits}
use Rattle.std.proofs.lemmas.Int.{to_z-of_z}
use Rattle.std.proofs.lemmas.List.{take_rest}
use Rattle.kind_analog.specs.Settings.{step_of}
use Rattle.kind_analog.proofs.Values.{values_first}
use Rattle.kind_analog.proofs.samples.Samples.split_first.Goals as goal

pub returns : goal.returns
returns c =
    let s = c.args.self.now in
    let fits : SFits w32 c.value_of-value.result = record { sfits = c.value_of-value.type_inv } in
    rw (to_z-of_z w32 c.value_of-value.result fits, c.value_of-value.ensures, take_rest s.bytes.now 2) (values_first (step_of s.factor) s.bytes.now c.in-len2-up.len_at_least)
