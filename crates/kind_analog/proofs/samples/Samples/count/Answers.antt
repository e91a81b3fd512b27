use Rattle.std.proofs.Common.{sym, refl}
use Rattle.kind_analog.specs.Settings.{step_of}
use Rattle.kind_analog.proofs.Values.{length-values}
use Rattle.kind_analog.proofs.samples.Samples.count.Goals as goal

pub returns : goal.returns
returns c = record { pairs = refl; values = sym (length-values (step_of c.args.self.now.factor) c.args.self.now.bytes.now) }
