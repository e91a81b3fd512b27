use Rattle.kind_analog.specs.Factors.{least_only}
use Rattle.kind_analog.proofs.kind.no_lesser_factor_serves.Goals as goal

pub returns : goal.returns
returns c = least_only
