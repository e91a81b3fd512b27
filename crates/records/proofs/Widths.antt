-- A number's bytes give it back, at every width. Assumes nothing.
use Rattle.std.proofs.Common.{◌≡◌, ℕ, zero, suc, ◌+◌, ◌*◌, ◌/◌, ◌%◌, ◌^◌, ◌<◌, List, [], ◌∷◌, length, sym, refl, ap, ◌∙◌, mod-eq_of_lt, mul_assoc, add-mul, arith}
use Rattle.std.proofs.lemmas.Nat.{pow-add, mod-pow-add}
use Rattle.records.specs.Verdicts.{Bytes}
use Rattle.records.specs.BigEndian.{big, big_on, low}

pub length-low : (k n : ℕ) → length (low k n) ≡ k
length-low zero n = refl
length-low (suc k) n = ap suc (length-low k n)

pub bytes_low : (k n : ℕ) → Bytes (low k n)
bytes_low zero n = tt
bytes_low (suc k) n = (omega arith, bytes_low k n)

pow_next : (k : ℕ) → 2 ^ (8 * suc k) ≡ 256 * 2 ^ (8 * k)
pow_next k = let e : 8 * suc k ≡ 8 + 8 * k = omega arith in ap (λ x. 2 ^ x) e ∙ pow-add 2 8 (8 * k)

on_low : (k a n : ℕ) → big_on a (low k n) ≡ a * 2 ^ (8 * k) + n % 2 ^ (8 * k)
on_low zero a n = omega arith
on_low (suc k) a n =
    let q = n / 2 ^ (8 * k) % 256 in
    let e : 8 * suc k ≡ 8 + 8 * k = omega arith in
    let m : n % 2 ^ (8 * suc k) ≡ q * 2 ^ (8 * k) + n % 2 ^ (8 * k) = ap (λ x. n % 2 ^ x) e ∙ mod-pow-add n 8 (8 * k) in
    let d : (a * 256 + q) * 2 ^ (8 * k) ≡ a * 256 * 2 ^ (8 * k) + q * 2 ^ (8 * k) = add-mul (a * 256) q (2 ^ (8 * k)) in
    let s : a * 256 * 2 ^ (8 * k) ≡ a * (256 * 2 ^ (8 * k)) = mul_assoc a 256 (2 ^ (8 * k)) in
    let t : a * 2 ^ (8 * suc k) ≡ a * (256 * 2 ^ (8 * k)) = ap (λ x. a * x) (pow_next k) in
    on_low k (a * 256 + q) n ∙ omega arith

pub big-low : (k n : ℕ) → n < 2 ^ (8 * k) → big (low k n) ≡ n
big-low k n h = let m = mod-eq_of_lt h in on_low k 0 n ∙ omega arith

on_below : (bs : List ℕ) (a i : ℕ) → Bytes bs → a < 2 ^ (8 * i) → big_on a bs < 2 ^ (8 * (length bs + i))
on_below [] a i b h = let z : 0 + i ≡ i = omega arith in rw z h
on_below (x ∷ bs) a i b h =
    let p = pow_next i in
    let less = b.0 in
    let z : length bs + suc i ≡ suc (length bs) + i = omega arith in
    rw (sym z) (on_below bs (a * 256 + x) (suc i) b.1 (omega arith))

-- k bytes are a number below 2 ^ (8 k)
pub big_below : (bs : List ℕ) (k : ℕ) → Bytes bs → length bs ≡ k → big bs < 2 ^ (8 * k)
big_below bs k b e =
    let z : length bs + 0 ≡ k = omega arith in
    rw (sym z) (on_below bs 0 0 b (omega arith))
