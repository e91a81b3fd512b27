use Rattle.std.proofs.Common.{sym, arith}
use native.Mathlib.Nat.{div-eq_of_lt}
use Rattle.records.proofs.Fields.{below}
use Rattle.records.proofs.bits.shifted.Goals as goal

pub returns-else-low-lt-BITS : goal.returns-else-low-lt-BITS
returns-else-low-lt-BITS c = sym (div-eq_of_lt (below c.args.word c.args.low (omega arith) (omega arith)))
