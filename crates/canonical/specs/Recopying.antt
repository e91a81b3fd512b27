-- Recopying: the canonical copy of a recording, which is a copy however it was written.
use Rattle.std.specs.Prelude.{◌≡◌, ℕ, ◌≤◌, true, List, [], ◌∷◌, ◌++◌, map, length, drop, is_ok, Ok, Err, Result, nat_le}
use Rattle.std.specs.List.{AllByRecursion}
use Rattle.records.specs.Services.{Services, checked_by}
use Rattle.records.specs.Tests.{tested, and_then}
use Rattle.records.specs.Verdicts.{Bytes}
use Rattle.records.specs.declared.refusal.Refusal.{Refusal}
use Rattle.records.specs.declared.refusal.Refusal.TheVariants.{OutputFull, OutputLength}
use Rattle.tecmp.specs.Reading.{Entry}
use Rattle.tecmp.specs.Statements.{stated}
use Rattle.copy_format.specs.Image.{packets_of, image}
use Rattle.copy_format.specs.ReadingBack.{Contents, entries_of, read_back}
use Rattle.canonical.specs.Calls.{may_open}
use Rattle.canonical.specs.declared.state.Closed.{Closed}

-- entries that the registry serves and accepts
abbrev pub Served : Services → List Entry → Type 0
Served services es = AllByRecursion (λ e. is_ok (checked_by (services e.code) e.flags e.bytes) ≡ true) es

-- the bytes of the canonical copy of what a recording holds, opened as the recording
abbrev pub canonical_bytes : Services → Contents → List ℕ
canonical_bytes services k = image services k.stream (entries_of k)

abbrev pub closed_of : Services → Contents → Closed
closed_of services k = record {
  bytes = length (canonical_bytes services k);
  entries = length (entries_of k);
  packets = length (packets_of services k.stream (entries_of k));
}

-- into an output of so many bytes: first what reading back refuses, then the output's length, then the room
abbrev pub recopied_into : Services → ℕ → Contents → Result Closed Refusal
recopied_into services lent k =
    tested ((may_open lent, OutputLength) ∷ (nat_le (length (canonical_bytes services k)) lent, OutputFull) ∷ []) (Ok (closed_of services k))

abbrev pub recopied : Services → List ℕ → ℕ → Result Closed Refusal
recopied services recording lent = and_then (read_back services recording) (recopied_into services lent)

-- the output then: the copy's bytes in front, and what was behind them as it was; or, refused, all as it was
abbrev pub Written : Services → Result Contents Refusal → Closed → List ℕ → List ℕ → Type 0
Written services (Ok k) c out out' = out' ≡ canonical_bytes services k ++ drop c.bytes out
Written services (Err refusal) c out out' = ⊥

abbrev pub Holds : Services → Result Contents Refusal → Result Closed Refusal → List ℕ → List ℕ → Type 0
Holds services contents (Ok c) out out' = Written services contents c out out'
Holds services contents (Err refusal) out out' = out' ≡ out

abbrev pub Recopies : Services → List ℕ → List ℕ → Result Closed Refusal → List ℕ → Type 0
Recopies services recording out r out' = (r ≡ recopied services recording (length out)) × Holds services (read_back services recording) r out out'

-- a canonical copy is its own canonical copy
abbrev pub SameAgain : Services → Type 0
SameAgain services = (recording : List ℕ) (k : Contents) (lent : ℕ) (c : Closed) → Bytes recording → read_back services recording ≡ Ok k → recopied_into services lent k ≡ Ok c
    → (again : Contents) × (read_back services (canonical_bytes services k) ≡ Ok again)
    × (recopied services (canonical_bytes services k) lent ≡ Ok c)
    × (canonical_bytes services again ≡ canonical_bytes services k)

-- two recordings have one canonical copy exactly where they were opened alike, and their entries say the same, one by one
abbrev pub OneCopy : Services → Type 0
OneCopy services = (one other : List ℕ) (k l : Contents) → Bytes one → Bytes other → read_back services one ≡ Ok k → read_back services other ≡ Ok l
    → ((k.stream ≡ l.stream) × (map (stated services) (entries_of k) ≡ map (stated services) (entries_of l)) → canonical_bytes services k ≡ canonical_bytes services l)
    × (length (canonical_bytes services k) ≤ 16777216 → length (canonical_bytes services l) ≤ 16777216
    → canonical_bytes services k ≡ canonical_bytes services l → (k.stream ≡ l.stream) × (map (stated services) (entries_of k) ≡ map (stated services) (entries_of l)))
