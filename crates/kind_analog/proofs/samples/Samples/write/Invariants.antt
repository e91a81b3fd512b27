use Rattle.std.proofs.Common.{◌≡◌, ◌*◌, ◌++◌, take, drop}
use Rattle.kind_analog.specs.Analog.{samples_of, Fitting}
use Rattle.kind_analog.specs.Readings.{values_in}
use Rattle.kind_analog.specs.Settings.{step_of}
use Rattle.kind_analog.proofs.samples.Samples.write.Given as goal

-- what is written, and the samples of what is left, make the whole
abbrev pub invariant-loop-i : goal.invariant-loop-i
invariant-loop-i l = record {
  fitting : Fitting (step_of l.to) (drop l.i (values_in l.self));
  whole : take (l.i * 2) l.part ++ samples_of (step_of l.to) (drop l.i (values_in l.self)) ≡ samples_of (step_of l.to) (values_in l.self);
}
