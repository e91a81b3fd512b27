-- What is known of a record that a registry has checked, and its law over the encodings. Assumes nothing.
use Rattle.std.proofs.Common.{◌≡◌, ℕ, ◌^◌, ◌<◌, ◌≤◌, true, List, length, is_ok, Ok, sym, refl, ap, ◌∙◌}
use Rattle.records.specs.Services.{Service, unserved, served, LawfulService, in_kind, checked_by, sense_by, canonical_flags_by, canonical_by}
use Rattle.records.specs.Verdicts.{Verdict, refuses, accepts, Bytes, checked, sense_of, canonical_flags, canonical_data}

pub checked-length : (v : Service) (f : ℕ) (d : List ℕ) (n : ℕ) → Ok n ≡ checked_by v f d → n ≡ length (canonical_by v f d)
checked-length unserved f d n e = cc
checked-length (served b verdict) f d n e = go (verdict f d) e
  where
    go : (w : Verdict) → Ok n ≡ in_kind (checked w) → n ≡ length (canonical_data w)
    go (refuses r) e = cc
    go (accepts s g p) e = cc

-- an accepted verdict is its parts
pub accepted_is : (w : Verdict) → is_ok (in_kind (checked w)) ≡ true → w ≡ accepts (sense_of w) (canonical_flags w) (canonical_data w)
accepted_is (refuses r) e = cc
accepted_is (accepts s g p) e = refl

-- what the law says of an accepted record
pub canonical_by_lem : (v : Service) → LawfulService v → (f : ℕ) (d : List ℕ) → f < 2 ^ 16 → Bytes d → is_ok (checked_by v f d) ≡ true
    → (length (canonical_by v f d) ≡ length d) × (length d ≤ 1472) × (0 < length d)
canonical_by_lem unserved law f d lf bd e = cc
canonical_by_lem (served b verdict) law f d lf bd e =
    let c = law.canonical f d _ _ _ lf bd (accepted_is (verdict f d) e) in
    (c.as_long, c.bounded, c.some)

-- two accepted records say the same exactly where they have one canonical encoding
pub one_encoding_by : (v : Service) → LawfulService v → (f : ℕ) (d : List ℕ) (f' : ℕ) (d' : List ℕ)
    → f < 2 ^ 16 → Bytes d → f' < 2 ^ 16 → Bytes d' → is_ok (checked_by v f d) ≡ true → is_ok (checked_by v f' d') ≡ true
    → sense_by v f d ≡ sense_by v f' d'
    → (canonical_flags_by v f d ≡ canonical_flags_by v f' d') × (canonical_by v f d ≡ canonical_by v f' d')
one_encoding_by unserved law f d f' d' lf bd lf' bd' e e' q = (refl, refl)
one_encoding_by (served b verdict) law f d f' d' lf bd lf' bd' e e' q =
    let a = accepted_is (verdict f d) e in
    let a' = accepted_is (verdict f' d') e' in
    law.one_encoding f d (sense_of (verdict f d)) _ _ f' d' _ _ lf bd lf' bd' a
    (a' ∙ ap (λ s. accepts s (canonical_flags (verdict f' d')) (canonical_data (verdict f' d'))) (sym q))

pub one_sense_by : (v : Service) → LawfulService v → (f : ℕ) (d : List ℕ) (f' : ℕ) (d' : List ℕ)
    → f < 2 ^ 16 → Bytes d → f' < 2 ^ 16 → Bytes d' → is_ok (checked_by v f d) ≡ true → is_ok (checked_by v f' d') ≡ true
    → canonical_flags_by v f d ≡ canonical_flags_by v f' d' → canonical_by v f d ≡ canonical_by v f' d'
    → sense_by v f d ≡ sense_by v f' d'
one_sense_by unserved law f d f' d' lf bd lf' bd' e e' q r = refl
one_sense_by (served b verdict) law f d f' d' lf bd lf' bd' e e' q r =
    let c = (law.canonical f d _ _ _ lf bd (accepted_is (verdict f d) e)).again in
    let c' = (law.canonical f' d' _ _ _ lf' bd' (accepted_is (verdict f' d') e')).again in
    ap sense_of (sym c ∙ ap (λ g. verdict g (canonical_data (verdict f d))) q ∙ ap (verdict (canonical_flags (verdict f' d'))) r ∙ c')
