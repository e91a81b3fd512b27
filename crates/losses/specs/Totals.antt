-- Totals, which stop at the largest u32.
use Rattle.std.specs.Prelude.{◌≡◌, ℕ, ◌+◌, min}
use Rattle.std.proofs.Common.{arith}

abbrev pub total : ℕ → ℕ
total n = min n 4294967295

-- once stopped, it stays there
pub total-total : (m n : ℕ) → total (total m + n) ≡ total (m + n)
total-total m n = grind arith
