-- What a record kind says of flags and data, and the law that every kind keeps.
use Rattle.std.specs.Prelude.{◌≡◌, ℕ, ◌^◌, ◌<◌, ◌≤◌, cond, List, [], length, ℤ, Ok, Err, Result, ◌==◌}
use Rattle.std.specs.List.{AllByRecursion}
use Rattle.records.specs.declared.refusal.RecordRefusal.{RecordRefusal}
use Rattle.records.specs.declared.refusal.WriteRefusal.{WriteRefusal}
use Rattle.records.specs.declared.refusal.WriteRefusal.TheVariants.{Record, PartLength}

-- refused; or accepted, with what the record says (its sense, a list of whole numbers)
-- and the one pair of flags and data in which that is written (its canonical encoding)
pub data Verdict : Type 0 where
  refuses : RecordRefusal → Verdict
  accepts : List ℤ → ℕ → List ℕ → Verdict

-- what `check` answers: the length of the canonical data
abbrev pub checked : Verdict → Result ℕ RecordRefusal
checked (refuses refusal) = Err refusal
checked (accepts sense flags data') = Ok (length data')

-- what `write` answers, given a part of so many bytes: the canonical flags
abbrev pub written : Verdict → ℕ → Result ℕ WriteRefusal
written (refuses refusal) room = Err (Record refusal)
written (accepts sense flags data') room = cond (room == length data') (Ok flags) (Err PartLength)

-- the parts of an accepted verdict; of a refused one [] and 0 stand in
abbrev pub sense_of : Verdict → List ℤ
sense_of (refuses refusal) = []
sense_of (accepts sense flags data') = sense

abbrev pub canonical_flags : Verdict → ℕ
canonical_flags (refuses refusal) = 0
canonical_flags (accepts sense flags data') = flags

abbrev pub canonical_data : Verdict → List ℕ
canonical_data (refuses refusal) = []
canonical_data (accepts sense flags data') = data'

-- the part after a write: the canonical data, or, refused, what it was
abbrev pub Filled : {E : Type 0} → Result ℕ E → List ℕ → List ℕ → List ℕ → Type 0
Filled (Ok flags) canonical before after = after ≡ canonical
Filled (Err refusal) canonical before after = after ≡ before

abbrev pub Bytes : List ℕ → Type 0
Bytes bs = AllByRecursion (λ b. b < 256) bs

-- of an accepted record
pub record Canonical (verdict : ℕ → List ℕ → Verdict) (data' : List ℕ) (sense : List ℤ) (flags : ℕ) (canonical : List ℕ) : Type 0 where
  pub some : 0 < length data'
  pub bounded : length data' ≤ 1472
  pub as_long : length canonical ≡ length data'
  pub flags_fit : flags < 2 ^ 16
  pub bytes : Bytes canonical
  pub again : verdict flags canonical ≡ accepts sense flags canonical

pub record Lawful (verdict : ℕ → List ℕ → Verdict) : Type 0 where
  -- an accepted record has 1 to 1,472 bytes; its canonical encoding is as long, is accepted and says the same
  pub canonical : (f : ℕ) (d : List ℕ) (s : List ℤ) (g : ℕ) (p : List ℕ)
      → f < 2 ^ 16 → Bytes d → verdict f d ≡ accepts s g p → Canonical verdict d s g p
  -- records that say the same have one canonical encoding
  pub one_encoding : (f : ℕ) (d : List ℕ) (s : List ℤ) (g : ℕ) (p : List ℕ) (f' : ℕ) (d' : List ℕ) (g' : ℕ) (p' : List ℕ)
      → f < 2 ^ 16 → Bytes d → f' < 2 ^ 16 → Bytes d'
      → verdict f d ≡ accepts s g p → verdict f' d' ≡ accepts s g' p' → (g ≡ g') × (p ≡ p')
