use Rattle.kind_analog.specs.Factors.{least_multiples}
use Rattle.kind_analog.proofs.kind.canonical_factor_serves.Goals as goal

pub returns : goal.returns
returns c = least_multiples
