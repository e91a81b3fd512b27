-- A sound codec keeps the law of a kind. Assumes nothing.
use Rattle.std.proofs.Common.{◌≡◌, ℕ, ◌^◌, ◌<◌, List, length, ℤ, Ok, Err, Result, sym, refl, ap, ◌∙◌, subst}
use Rattle.records.specs.declared.refusal.RecordRefusal.{RecordRefusal}
use Rattle.records.specs.Codecs.{Codec, Sound, encoded, verdict_of}
use Rattle.records.specs.Tests.{tested, Passed}
use Rattle.records.specs.Verdicts.{accepts, Bytes, Canonical, Lawful, checked, canonical_data, canonical_flags}
use Rattle.records.proofs.Tested.{passed, tested_passed}

module _ {S : Type 0} (k : Codec S) (sound : Sound k) where
  -- an answer that is encoded as accepted is a value
  taken : (r : Result S RecordRefusal) (s : List ℤ) (g : ℕ) (p : List ℕ) → encoded k r ≡ accepts s g p → (x : S) × (r ≡ Ok x)
  taken (Ok x) s g p e = (x, refl)
  taken (Err w) s g p e = cc

  accepted_passed : (f : ℕ) (d : List ℕ) (s : List ℤ) (g : ℕ) (p : List ℕ) → verdict_of k f d ≡ accepts s g p → Passed (k.tests f d)
  accepted_passed f d s g p e =
      let t = taken (tested (k.tests f d) (Ok (k.says f d))) s g p e in
      (passed (k.tests f d) (Ok (k.says f d)) t.0 t.1).0

  -- the verdict where the tests pass
  pub verdict_passed : (f : ℕ) (d : List ℕ) → Passed (k.tests f d) → verdict_of k f d ≡ encoded k (Ok (k.says f d))
  verdict_passed f d p = ap (encoded k) (tested_passed (k.tests f d) (Ok (k.says f d)) p)

  is : (f : ℕ) (d : List ℕ) (s : List ℤ) (g : ℕ) (p : List ℕ) → verdict_of k f d ≡ accepts s g p → encoded k (Ok (k.says f d)) ≡ accepts s g p
  is f d s g p e = sym (verdict_passed f d (accepted_passed f d s g p e)) ∙ e

  canonical : (f : ℕ) (d : List ℕ) (s : List ℤ) (g : ℕ) (p : List ℕ) → f < 2 ^ 16 → Bytes d → verdict_of k f d ≡ accepts s g p → Canonical (verdict_of k) d s g p
  canonical f d s g p lt bytes e =
      let h = is f d s g p e in
      let ok = accepted_passed f d s g p e in
      let x = k.says f d in
      let qf : k.flags x ≡ g = cc in
      let qb : k.bytes x ≡ p = cc in
      let size = sound.sized f d ok in
      let fit = sound.fits f d lt bytes ok in
      let again : verdict_of k (k.flags x) (k.bytes x) ≡ accepts s g p =
      verdict_passed (k.flags x) (k.bytes x) (sound.passes f d lt bytes ok) ∙ ap (λ y. encoded k (Ok y)) (sound.back f d lt bytes ok) ∙ h in
      record {
        some = size.0;
        bounded = size.1;
        as_long = ap length (sym qb) ∙ size.2;
        flags_fit = subst (λ (y : ℕ). y < 2 ^ 16) qf fit.0;
        bytes = subst Bytes qb fit.1;
        again = subst (λ (y : ℕ). verdict_of k y p ≡ accepts s g p) qf (subst (λ (y : List ℕ). verdict_of k (k.flags x) y ≡ accepts s g p) qb again);
      }

  pub lawful : Lawful (verdict_of k)
  lawful = record {
    canonical = canonical;
    one_encoding = λ f d s g p f' d' g' p' _ _ _ _ e e'.
        let h = is f d s g p e in
        let h' = is f' d' s g' p' e' in
        let alike : k.sense (k.says f d) ≡ k.sense (k.says f' d') = cc in
        let same = sound.apart (k.says f d) (k.says f' d') alike in
        (cc, cc);
  }

  -- for `check`: what it answers where the tests pass
  pub checks : (f : ℕ) (d : List ℕ) → Passed (k.tests f d) → Ok (length d) ≡ checked (verdict_of k f d)
  checks f d p = sym (ap checked (verdict_passed f d p) ∙ ap Ok (sound.sized f d p).2)

  checked_passed : (f : ℕ) (d : List ℕ) (r : Result S RecordRefusal) (n : ℕ) → checked (encoded k r) ≡ Ok n → (x : S) × (r ≡ Ok x)
  checked_passed f d (Ok x) n e = (x, refl)
  checked_passed f d (Err w) n e = cc

  -- for the inner call that writes: what its `requires` says, and what it answers
  pub accepted : (f : ℕ) (d : List ℕ) (n : ℕ) → checked (verdict_of k f d) ≡ Ok n → Passed (k.tests f d) × (n ≡ length d)
  accepted f d n e =
      let t = checked_passed f d (tested (k.tests f d) (Ok (k.says f d))) n e in
      let p = (passed (k.tests f d) (Ok (k.says f d)) t.0 t.1).0 in
      let q = checks f d p in
      (p, cc)

  pub encodes : (f : ℕ) (d : List ℕ) → Passed (k.tests f d)
      → (k.flags (k.says f d) ≡ canonical_flags (verdict_of k f d)) × (k.bytes (k.says f d) ≡ canonical_data (verdict_of k f d))
  encodes f d p =
      let e = verdict_passed f d p in
      (sym (ap canonical_flags e), sym (ap canonical_data e))
