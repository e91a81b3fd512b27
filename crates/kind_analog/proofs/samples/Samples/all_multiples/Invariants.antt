use Rattle.std.proofs.Common.{◌≡◌, drop}
use Rattle.kind_analog.specs.Analog.{all_multiples}
use Rattle.kind_analog.specs.Readings.{values_in}
use Rattle.kind_analog.specs.Settings.{step_of}
use Rattle.kind_analog.proofs.samples.Samples.all_multiples.Given as goal

-- what is left decides
abbrev pub invariant-loop-i : goal.invariant-loop-i
invariant-loop-i l = all_multiples (step_of l.of) (drop l.i (values_in l.self)) ≡ all_multiples (step_of l.of) (values_in l.self)
