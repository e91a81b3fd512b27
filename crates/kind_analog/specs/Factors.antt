-- The canonical factor: it serves every value, no lesser one does, and it makes no sample too large. Assumes nothing.
use Rattle.std.specs.Prelude.{◌≡◌, ℕ, ◌+◌, ◌-◌, ◌*◌, ◌%◌, ◌<◌, ◌≤◌, true, false, List, [], ◌∷◌, ℤ, unsigned_abs, refl}
use Rattle.std.proofs.Common.{sym, subst, ⊎_elim, arith, lit<}
use Rattle.std.proofs.Math.Nat.{one-le-pow, pow-le-pow_right}
use Rattle.std.specs.Int.Signed.{mag}
use Rattle.std.specs.Int.{w16}
use mir.ValLaws.{to_z-Fits}
use Rattle.std.proofs.lemmas.Bool.{and_from, eq-eqb, cond_both, both_ways, cases_lt}
use Rattle.records.specs.Verdicts.{Bytes}
use Rattle.kind_analog.specs.Analog.{values, sample, all_multiples, step, least_factor, Fitting}
use Rattle.kind_analog.specs.Scaled.{quot_fits, product_multiple}

values_multiples : (m : ℕ) (d : List ℕ) → all_multiples m (values m d) ≡ true
values_multiples m [] = refl
values_multiples m (x ∷ []) = refl
values_multiples m (x ∷ (y ∷ d)) = and_from _ _ (eq-eqb _ _ (product_multiple (sample x y) m)) (values_multiples m d)

multiples_one : (vs : List ℤ) → all_multiples 1 vs ≡ true
multiples_one [] = refl
multiples_one (v ∷ vs) = and_from _ _ (eq-eqb (unsigned_abs v % 1) 0 (omega arith)) (multiples_one vs)

-- every value is a multiple of the canonical step
pub least_multiples : (vs : List ℤ) → all_multiples (step (least_factor vs)) vs ≡ true
least_multiples vs =
    let P : ℕ → Type 0 = λ g. all_multiples (step g) vs ≡ true in
    cond_both (all_multiples 1000 vs) 0 _ P (λ e. e) (λ _.
    cond_both (all_multiples 100 vs) 1 _ P (λ e. e) (λ _.
    cond_both (all_multiples 10 vs) 2 3 P (λ e. e) (λ _. multiples_one vs)))

-- and no lesser factor serves
pub least_only : (vs : List ℤ) (g : ℕ) → g < least_factor vs → all_multiples (step g) vs ≡ false
least_only vs =
    let P : ℕ → Type 0 = λ x. (g : ℕ) → g < x → all_multiples (step g) vs ≡ false in
    let at : (g n : ℕ) → all_multiples (step n) vs ≡ false → g ≡ n → all_multiples (step g) vs ≡ false = λ g n e q. subst (λ x. all_multiples (step x) vs ≡ false) (sym q) e in
    cond_both (all_multiples 1000 vs) 0 _ P (λ _ g h. absurd (omega arith)) (λ n₀.
    cond_both (all_multiples 100 vs) 1 _ P (λ _ g h. at g 0 n₀ (omega arith)) (λ n₁.
    cond_both (all_multiples 10 vs) 2 3 P
    (λ _ g h. ⊎_elim (λ l. at g 0 n₀ (omega arith)) (λ l. at g 1 n₁ (omega arith)) (cases_lt g 1))
    (λ n₂ g h. ⊎_elim (λ l. at g 0 n₀ (omega arith)) (λ l. ⊎_elim (λ l'. at g 1 n₁ (omega arith)) (λ l'. at g 2 n₂ (omega arith)) (cases_lt g 2)) (cases_lt g 1))))

pub least_small : (vs : List ℤ) → least_factor vs < 4
least_small vs =
    let P : ℕ → Type 0 = λ g. g < 4 in
    cond_both (all_multiples 1000 vs) 0 _ P (λ e. omega arith) (λ _.
    cond_both (all_multiples 100 vs) 1 _ P (λ e. omega arith) (λ _.
    cond_both (all_multiples 10 vs) 2 3 P (λ e. omega arith) (λ _. omega arith)))

-- and that step is no less than any that serves
least_step : (f : ℕ) (vs : List ℤ) → all_multiples (step f) vs ≡ true → step f ≤ step (least_factor vs)
least_step f vs e =
    ⊎_elim
    (λ lesser. absurd (both_ways _ (least_only vs f lesser) e))
    (λ no_lesser. pow-le-pow_right (lit< tt) (omega arith))
    (cases_lt f (least_factor vs))

step_pos : (f : ℕ) → 0 < step f
step_pos f = omega (arith, one-le-pow (3 - f) 10 (lit< tt))

sample_small : (x y : ℕ) → x < 256 → y < 256 → mag (sample x y) < 32768
sample_small x y h k = (to_z-Fits w16 (x * 256 + y) (record { fits = omega arith })).sfits

fitting : (m M : ℕ) (d : List ℕ) → Bytes d → m ≤ M → 0 < M → Fitting M (values m d)
fitting m M [] b h k = tt
fitting m M (x ∷ []) b h k = tt
fitting m M (x ∷ (y ∷ d)) b h k = (quot_fits (sample x y) m M (sample_small x y b.0 b.1.0) h k, fitting m M d b.1.1 h k)

-- the canonical samples are samples
pub canonical_fitting : (f : ℕ) (d : List ℕ) → Bytes d → Fitting (step (least_factor (values (step f) d))) (values (step f) d)
canonical_fitting f d b =
    let vs = values (step f) d in
    fitting (step f) (step (least_factor vs)) d b (least_step f vs (values_multiples (step f) d)) (step_pos (least_factor vs))
