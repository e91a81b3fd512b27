-- Words and the powers past their bits. Assumes nothing.
use Rattle.std.proofs.Common.{ℕ, ◌^◌, ◌<◌, ◌≤◌, arith, pow_mono}

-- a word is below any power from its width on
pub below : (word k : ℕ) → word < 2 ^ 16 → 16 ≤ k → word < 2 ^ k
below word k h i = let m : 2 ^ 16 ≤ 2 ^ k = pow_mono {i = 16} {j = k} i in omega arith
