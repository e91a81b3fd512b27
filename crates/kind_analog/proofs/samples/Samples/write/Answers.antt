use Rattle.std.proofs.Common.{◌+◌, ◌*◌, ◌++◌, take, drop, pos, sym, ap, ◌∙◌, subst, append_assoc, arith, to_z, of_z, w32}
use Rattle.std.specs.Prelude.{int_div}
use Rattle.kind_analog.specs.Analog.{sample_bytes, samples_of, Fitting}
use Rattle.kind_analog.specs.Readings.{values_in}
use Rattle.kind_analog.specs.Settings.{step_of}
use Rattle.kind_analog.proofs.Values.{left_from, take_two}
use Rattle.kind_analog.proofs.samples.Samples.write.Goals as goal

pub write_sample-requires-clause-fits : goal.write_sample-requires-clause-fits
write_sample-requires-clause-fits c =
    let next = left_from (values_in c.args.self.now) c.loop-i.i c.value_at.result c.value_at.type_inv c.value_at.ensures in
    (subst (Fitting (step_of c.args.to)) next c.loop-i.invariant.fitting).0

pub loop-i-preserved : goal.loop-i-preserved
loop-i-preserved c =
    let i = c.loop-i.i in
    let to = step_of c.args.to in
    let next = left_from (values_in c.args.self.now) i c.value_at.result c.value_at.type_inv c.value_at.ensures in
    let front = take (i * 2) c.loop-i.part in
    let rest = drop (i + 1) (values_in c.args.self.now) in
    let bytes = sample_bytes (int_div (to_z w32 (of_z w32 c.value_at.result)) (pos to)) in
    let two = take_two c.loop-i.part bytes i (omega arith) in
    record {
      fitting = (subst (Fitting to) next c.loop-i.invariant.fitting).1;
      whole =
          ap (λ p. take ((i + 1) * 2) p ++ samples_of to rest) c.write_sample.ensures
          ∙ ap (λ t. t ++ samples_of to rest) two
          ∙ append_assoc front bytes (samples_of to rest)
          ∙ ap (λ v. front ++ samples_of to v) (sym next)
          ∙ c.loop-i.invariant.whole;
    }
