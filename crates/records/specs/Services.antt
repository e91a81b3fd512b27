-- What a registry of record kinds means.
use Rattle.std.specs.Prelude.{ℕ, Bool, true, false, cond, List, [], ℤ, Some, None, Ok, Err, Option, Result}
use Rattle.records.specs.declared.code.Code.{Code}
use Rattle.records.specs.declared.refusal.RecordRefusal.{RecordRefusal}
use Rattle.records.specs.declared.refusal.WriteRefusal.{WriteRefusal}
use Rattle.records.specs.declared.refusal.LookupRefusal.{LookupRefusal}
use Rattle.records.specs.declared.refusal.LookupRefusal.TheVariants.{UnknownCode, Kind}
use Rattle.records.specs.Codes.{same_code}
use Rattle.records.specs.Verdicts.{Verdict, checked, written, sense_of, canonical_flags, canonical_data, Lawful}

-- how a code is served: not at all; or whether its entries share packets, and the kind's verdict
pub data Service : Type 0 where
  unserved : Service
  served : Bool → (ℕ → List ℕ → Verdict) → Service

-- a registry says how each code is served
abbrev pub Services : Type 0
Services = Code → Service

-- one kind serves its own code
abbrev pub single : Code → Bool → (ℕ → List ℕ → Verdict) → Services
single own shares verdict code = cond (same_code own code) (served shares verdict) unserved

-- of two the left one, where it serves
abbrev pub or_else : Service → Service → Service
or_else unserved right = right
or_else (served shares verdict) right = served shares verdict

abbrev pub is_served : Service → Bool
is_served unserved = false
is_served (served shares verdict) = true

abbrev pub shares_in : Service → Bool
shares_in unserved = false
shares_in (served shares verdict) = shares

-- what `sharing` answers
abbrev pub sharing_of : Service → Option Bool
sharing_of unserved = None
sharing_of (served shares verdict) = Some shares

abbrev pub in_kind : {A E : Type 0} → Result A E → Result A (LookupRefusal E)
in_kind (Ok x) = Ok x
in_kind (Err refusal) = Err (Kind refusal)

-- what `check` answers
abbrev pub checked_by : Service → ℕ → List ℕ → Result ℕ (LookupRefusal RecordRefusal)
checked_by unserved flags bytes = Err UnknownCode
checked_by (served shares verdict) flags bytes = in_kind (checked (verdict flags bytes))

-- what `write` answers, given a part of so many bytes
abbrev pub written_by : Service → ℕ → List ℕ → ℕ → Result ℕ (LookupRefusal WriteRefusal)
written_by unserved flags bytes room = Err UnknownCode
written_by (served shares verdict) flags bytes room = in_kind (written (verdict flags bytes) room)

-- what a record says and its canonical encoding; of a refused one, or where no kind serves, [] and 0 stand in
abbrev pub sense_by : Service → ℕ → List ℕ → List ℤ
sense_by unserved flags bytes = []
sense_by (served shares verdict) flags bytes = sense_of (verdict flags bytes)

abbrev pub canonical_flags_by : Service → ℕ → List ℕ → ℕ
canonical_flags_by unserved flags bytes = 0
canonical_flags_by (served shares verdict) flags bytes = canonical_flags (verdict flags bytes)

abbrev pub canonical_by : Service → ℕ → List ℕ → List ℕ
canonical_by unserved flags bytes = []
canonical_by (served shares verdict) flags bytes = canonical_data (verdict flags bytes)

-- what is served keeps the law of a kind
abbrev pub LawfulService : Service → Type 0
LawfulService unserved = Unit {0}
LawfulService (served shares verdict) = Lawful verdict
