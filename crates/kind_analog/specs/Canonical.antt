-- The codec is sound: the canonical encoding says the same. Assumes nothing.
use Rattle.std.specs.Prelude.{◌≡◌, ℕ, ◌+◌, ◌*◌, ◌/◌, ◌%◌, ◌^◌, ◌<◌, true, List, [], ◌∷◌, length, ℤ, pos, negsuc, ◌*ℤ◌, FitsSigned, int_div, refl}
use Rattle.std.proofs.Common.{sym, ap, ◌∙◌, subst, arith, to_z, of_z}
use Rattle.std.specs.Int.{w16}
use Rattle.std.proofs.lemmas.Int.{to_z-of_z}
use Rattle.std.proofs.lemmas.Bool.{and_parts, eqb-true, leb-true}
use Rattle.records.specs.Codecs.{Sound}
use Rattle.records.specs.Tests.{Passed}
use Rattle.kind_analog.specs.Analog.{Sense, analog, codec, tests, says, sense, flags_of, bytes_of, values, is_multiple, all_multiples, step, least_factor, samples_of, Fitting, unit_field, period_field, factor_field}
use Rattle.kind_analog.specs.Factors.{least_multiples, least_small, canonical_fitting}
use Rattle.kind_analog.specs.Scaled.{quot_exact}
use Rattle.kind_analog.specs.ValuesLemmas.{length-samples, samples_bytes}

bits_below : (z : ℤ) → FitsSigned w16 z → of_z w16 z < 65536
bits_below (pos n) f = omega (arith, f.sfits)
bits_below (negsuc n) f = omega (arith, f.sfits)

sample_back : (z : ℤ) → FitsSigned w16 z → to_z w16 ((of_z w16 z / 256 % 256) * 256 + of_z w16 z % 256) ≡ z
sample_back z f =
    let e : (of_z w16 z / 256 % 256) * 256 + of_z w16 z % 256 ≡ of_z w16 z = omega (arith, bits_below z f) in
    ap (to_z w16) e ∙ to_z-of_z w16 z f

values_back : (m : ℕ) (vs : List ℤ) → Fitting m vs → all_multiples m vs ≡ true → values m (samples_of m vs) ≡ vs
values_back m [] f h = refl
values_back m (v ∷ vs) f h =
    let both = and_parts (is_multiple m v) (all_multiples m vs) h in
    let here = ap (λ z. z *ℤ pos m) (sample_back (int_div v (pos m)) f.0) ∙ quot_exact v m (eqb-true _ _ both.0) in
    let rest = values_back m vs f.1 both.1 in
    cc

fields : (u t g : ℕ) → u < 8 → t < 16 → g < 4
    → (unit_field (t * 2048 + g * 128 + u * 4) ≡ u) × (period_field (t * 2048 + g * 128 + u * 4) ≡ t) × (factor_field (t * 2048 + g * 128 + u * 4) ≡ g)
fields u t g hu ht hg = (omega arith, omega arith, omega arith)

flags_fit : (u t g : ℕ) → u < 8 → t < 16 → g < 4 → t * 2048 + g * 128 + u * 4 < 2 ^ 16
flags_fit u t g hu ht hg = omega arith

pub even : (f : ℕ) (d : List ℕ) → Passed (tests f d) → length d % 2 ≡ 0
even f d p = eqb-true (length d % 2) 0 p.1.1.0

apart : (s t : Sense) → sense s ≡ sense t → s ≡ t
apart (analog u t vs) (analog u' t' vs') e = cc

pub sound : Sound codec
sound = record {
  sized = λ f d p. (omega (arith, leb-true 2 (length d) p.0), omega (arith, leb-true (length d) 1400 p.1.0), length-samples _ (step (factor_field f)) d (even f d p));
  fits = λ f d lt b p.
      let vs = values (step (factor_field f)) d in
      (flags_fit (unit_field f) (period_field f) (least_factor vs) (omega arith) (omega arith) (least_small vs), samples_bytes (step (least_factor vs)) vs);
  -- each of the three codecs has other facts here, and `cc` puts them together
  passes = λ f d lt b p.
      let vs = values (step (factor_field f)) d in
      let e = fields (unit_field f) (period_field f) (least_factor vs) (omega arith) (omega arith) (least_small vs) in
      let l = length-samples (step (least_factor vs)) (step (factor_field f)) d (even f d p) in
      let same : tests (flags_of (says f d)) (bytes_of (says f d)) ≡ tests f d = cc in
      subst Passed (sym same) p;
  back = λ f d lt b p.
      let vs = values (step (factor_field f)) d in
      let e = fields (unit_field f) (period_field f) (least_factor vs) (omega arith) (omega arith) (least_small vs) in
      let r = values_back (step (least_factor vs)) vs (canonical_fitting (factor_field f) d b) (least_multiples vs) in
      cc;
  apart = apart;
}
