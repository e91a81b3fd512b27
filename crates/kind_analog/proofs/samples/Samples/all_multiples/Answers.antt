use Rattle.std.proofs.Common.{sym, ap, ◌∙◌, arith}
use Rattle.std.proofs.lemmas.List.{at_drop_all}
use Rattle.kind_analog.specs.Analog.{all_multiples}
use Rattle.kind_analog.specs.Readings.{values_in}
use Rattle.kind_analog.specs.Settings.{step_of}
use Rattle.kind_analog.proofs.Values.{left_from}
use Rattle.kind_analog.proofs.samples.Samples.all_multiples.Goals as goal

pub loop-i-preserved : goal.loop-i-preserved
loop-i-preserved c =
    let next = left_from (values_in c.args.self.now) c.loop-i.i c.value_at.result c.value_at.type_inv c.value_at.ensures in
    let passed = c.if-not-is_multiple.ensures in
    rw (sym passed) at (sym (ap (all_multiples (step_of c.args.of)) next)) ∙ c.loop-i.invariant

pub returns : goal.returns
returns c = sym (at_drop_all (all_multiples (step_of c.args.of)) (values_in c.args.self.now) c.loop-i.i (omega arith)) ∙ c.loop-i.invariant

pub returns-then-not-is_multiple : goal.returns-then-not-is_multiple
returns-then-not-is_multiple c =
    let next = left_from (values_in c.args.self.now) c.loop-i.i c.value_at.result c.value_at.type_inv c.value_at.ensures in
    let failed = c.if-not-is_multiple.ensures in
    rw (sym failed) at (sym (ap (all_multiples (step_of c.args.of)) next)) ∙ c.loop-i.invariant
