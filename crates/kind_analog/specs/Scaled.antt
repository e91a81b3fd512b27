-- Products and quotients of a signed number by a step. Assumes nothing.
use Rattle.std.specs.Prelude.{◌≡◌, ℕ, zero, suc, ◌+◌, ◌*◌, ◌/◌, ◌%◌, ◌<◌, ◌≤◌, ℤ, pos, negsuc, ◌*ℤ◌, neg_ℤ, FitsSigned, int_div, int_rem, unsigned_abs, refl}
use Rattle.std.proofs.Common.{sym, ap, ◌∙◌, arith}
use Rattle.std.proofs.Math.Nat.{zero-div, mul-mod_left}
use Rattle.std.specs.Int.Signed.{mag}
use Rattle.std.specs.Int.{w16}
use Rattle.std.proofs.lemmas.Nat.{mul-le, div_below}
use Rattle.std.proofs.lemmas.Int.{quot-rem, unsigned_abs-mul}
use Rattle.std.proofs.Math.IntN.{+ℤ_idr}

mag-neg : (r b : ℕ) → r ≤ suc b → mag (neg_ℤ (pos r)) ≤ b
mag-neg zero b h = omega arith
mag-neg (suc n) b h = omega arith

neg-quot : (k m : ℕ) → int_div (neg_ℤ (pos k)) (pos m) ≡ neg_ℤ (pos (k / m))
neg-quot zero m = simp zero-div
neg-quot (suc n) m = refl

-- a multiple divided and taken again
pub quot_exact : (v : ℤ) (m : ℕ) → unsigned_abs v % m ≡ 0 → int_div v (pos m) *ℤ pos m ≡ v
quot_exact v m h = sym (+ℤ_idr _) ∙ rw (rest v h) at (quot-rem v (pos m))
  where
    rest : (v : ℤ) → unsigned_abs v % m ≡ 0 → int_rem v (pos m) ≡ pos 0
    rest (pos a) h = ap pos h
    rest (negsuc a) h = ap (λ n. neg_ℤ (pos n)) h

shrinks : (a m M : ℕ) → m ≤ M → 0 < M → a * m / M ≤ a
shrinks a m M h k = omega (arith, div_below (a * m) M (a + 1) k (omega (arith, mul-le a m a M (omega arith) h)))

-- a larger step makes no longer sample
pub quot_fits : (s : ℤ) (m M : ℕ) → mag s < 32768 → m ≤ M → 0 < M → FitsSigned w16 (int_div (s *ℤ pos m) (pos M))
quot_fits (pos a) m M f h k = record { sfits = omega (arith, shrinks a m M h k) }
quot_fits (negsuc a) m M f h k =
    rw neg-quot (record { sfits = omega (arith, mag-neg (suc a * m / M) 32767 (omega (arith, shrinks (suc a) m M h k))) })

pub product_multiple : (s : ℤ) (m : ℕ) → unsigned_abs (s *ℤ pos m) % m ≡ 0
product_multiple s m = rw unsigned_abs-mul (mul-mod_left (unsigned_abs s) m)
