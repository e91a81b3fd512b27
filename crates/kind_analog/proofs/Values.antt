-- The values of the samples by index, and samples put in place. Assumes nothing.
use Rattle.std.proofs.Common.{◌≡◌, ℕ, zero, suc, ◌+◌, ◌*◌, ◌/◌, ◌<◌, ◌≤◌, List, [], ◌∷◌, ◌++◌, length, take, drop, ℤ, pos, ◌*ℤ◌, Some, refl, ap, ◌∙◌, arith, to_z, of_z}
use Rattle.std.specs.Prelude.{FitsSigned, slice_index, slice_index_or, slice_set, unsigned_abs}
use Rattle.std.specs.Int.Signed.{mag}
use Rattle.std.specs.Int.{w16, w32}
use Rattle.std.proofs.lemmas.List.{drop_more, take_more_set, length-set, append_assoc}
use Rattle.std.proofs.lemmas.Int.{ints, to_z-of_z, fits_signed_mul}
use Rattle.std.specs.List.{slice_get}
use Rattle.std.proofs.lemmas.Option.{get_or_from_slice_get, slice_get_within}
use Rattle.kind_analog.specs.Analog.{values, sample}
use Rattle.kind_analog.specs.Places.{value_at, put_at}

-- a sample times a step, as the code computes it
pub scaled : (s : ℤ) (m : ℕ) {x y : ℤ} → FitsSigned w16 s → m ≤ 1000 → x ≡ to_z w16 (of_z w16 s) → y ≡ pos m → to_z w32 (of_z w32 (to_z w32 (of_z w32 x) *ℤ to_z w32 (of_z w32 y))) ≡ s *ℤ pos m
scaled s m f k e e' =
    let fs : FitsSigned w32 s = record { sfits = omega (arith, f.sfits) } in
    let fm : FitsSigned w32 (pos m) = record { sfits = omega arith } in
    let h : unsigned_abs s ≤ 32768 = omega (arith, ints, f.sfits) in
    let fp : FitsSigned w32 (s *ℤ pos m) = fits_signed_mul w32 s (pos m) 32768 1000 h k (omega arith) in
    let a = to_z-of_z w16 s f in
    let b = to_z-of_z w32 s fs in
    let d = to_z-of_z w32 (pos m) fm in
    let p = to_z-of_z w32 (s *ℤ pos m) fp in
    cc

-- the first value, and those of the rest
pub values_first : (m : ℕ) (d : List ℕ) → 2 ≤ length d → values m d ≡ (sample (slice_index d 0) (slice_index d 1) *ℤ pos m) ∷ values m (drop 2 d)
values_first m [] h = absurd (omega arith)
values_first m (x ∷ []) h = absurd (omega arith)
values_first m (x ∷ (y ∷ d)) h = refl

pub length-values : (m : ℕ) (d : List ℕ) → length (values m d) ≡ length d / 2
length-values m [] = refl
length-values m (x ∷ []) = refl
length-values m (x ∷ (y ∷ d)) = omega (arith, length-values m d)

pub value_in : (m : ℕ) (d : List ℕ) (i : ℕ) → i * 2 + 1 < length d → slice_get (values m d) i ≡ Some (value_at m d i)
value_in m [] i h = absurd (omega arith)
value_in m (x ∷ []) i h = absurd (omega arith)
value_in m (x ∷ (y ∷ d)) zero h = refl
value_in m (x ∷ (y ∷ d)) (suc i) h =
    let n : suc i * 2 ≡ suc (suc (i * 2)) = omega arith in
    let n' : suc i * 2 + 1 ≡ suc (suc (i * 2 + 1)) = omega arith in
    rw (n', n) (value_in m d i (omega arith))

-- what is left of the values from a place on, with the value there as the code hands it on
pub left_from : (vs : List ℤ) (i : ℕ) (v : ℤ) → mag v < 2147483648 → slice_get vs i ≡ Some v → drop i vs ≡ to_z w32 (of_z w32 v) ∷ drop (i + 1) vs
left_from vs i v fits e =
    let f : FitsSigned w32 v = record { sfits = fits } in
    rw (get_or_from_slice_get vs i v v e, ← to_z-of_z w32 v f) at (drop_more vs i v (slice_get_within vs i v e))

-- two bytes more
pub take_two : (p bytes : List ℕ) (i : ℕ) → i * 2 + 1 < length p → take ((i + 1) * 2) (put_at p i bytes) ≡ take (i * 2) p ++ (slice_index bytes 0 ∷ (slice_index bytes 1 ∷ []))
take_two p bytes i h =
    let a = slice_index_or bytes 0 0 in
    let b = slice_index_or bytes 1 0 in
    let n : (i + 1) * 2 ≡ i * 2 + 1 + 1 = omega arith in
    let in' : i * 2 + 1 < length (slice_set p (i * 2) a) = simp length-set h in
    ap (λ k. take k (put_at p i bytes)) n
    ∙ take_more_set (slice_set p (i * 2) a) (i * 2 + 1) b in'
    ∙ ap (λ t. t ++ (b ∷ [])) (take_more_set p (i * 2) a (omega arith))
    ∙ append_assoc (take (i * 2) p) (a ∷ []) (b ∷ [])
