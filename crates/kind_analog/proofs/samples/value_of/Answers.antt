use Rattle.std.proofs.Common.{◌∙◌}
use Rattle.kind_analog.proofs.Values.{scaled}
use Rattle.kind_analog.proofs.samples.value_of.Goals as goal

pub returns : goal.returns
returns c =
    let sample = c.from_be_bytes-sample in
    let product = scaled sample.result c.step.result (record { sfits = sample.type_inv }) c.step.ensures.bound c.from.ensures c.from-2.ensures in
    product ∙ rw (c.step.ensures.step, sample.ensures)
