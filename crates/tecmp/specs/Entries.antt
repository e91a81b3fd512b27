-- All entries of a packet.
use Rattle.std.specs.Prelude.{◌≡◌, ℕ, zero, suc, ◌+◌, ◌-◌, Bool, List, [], ◌∷◌, length, Some, None, Ok, Err, Option, Result}
use Rattle.records.specs.declared.code.Code.{Code}
use Rattle.tecmp.specs.declared.head.Stream.{Stream}
use Rattle.records.specs.declared.refusal.Refusal.{Refusal}
use Rattle.tecmp.specs.Layout.{code_of}
use Rattle.tecmp.specs.Reading.{Entry, Answer, head_tests, inside_by, reading}
use Rattle.records.specs.Services.{Services, Service, shares_in}
use Rattle.records.specs.Tests.{tested}

abbrev pub Entries : Type 0
Entries = Result (List Entry) Refusal

abbrev pub before : Entry → Entries → Entries
before e (Ok es) = Ok (e ∷ es)
before e (Err refusal) = Err refusal

-- what stands here, and then what comes from the next offset on
abbrev pub onward : Answer → (ℕ → Entries) → Entries
onward (Err refusal) rest = Err refusal
onward (Ok None) rest = Ok []
onward (Ok (Some f)) rest = before f.entry (rest f.next)

module _ (service : Service) (shares : Bool) (code : Code) (s : List ℕ) where
  -- from n bytes before the end on, after k bytes that an entry has taken
  abbrev pub walked_by : ℕ → ℕ → Entries
  walked_by k zero = Ok []
  walked_by (suc k) (suc n) = walked_by k n
  walked_by zero (suc n) = onward (inside_by service shares code s (length s - suc n)) (λ next. walked_by (next - (length s - n)) n)

  -- from an offset on, by what the head says
  abbrev pub entries_by : ℕ → Entries
  entries_by at = onward (inside_by service shares code s at) (λ next. walked_by 0 (length s - next))

-- the same of a packet whose head has passed
module _ (service : Service) (code : Code) (s : List ℕ) where
  abbrev pub walked : ℕ → ℕ → Entries
  walked k n = walked_by service (shares_in service) code s k n

  abbrev pub entries_from : ℕ → Entries
  entries_from at = entries_by service (shares_in service) code s at

-- of a packet, of the stream that is asked for, if one is: all entries, or the first refusal
abbrev pub entries : Services → Option Stream → List ℕ → Entries
entries services stream s = tested (head_tests services stream s) (entries_from (services (code_of s)) (code_of s) s 12)

abbrev pub counted : ℕ → Entries → Result ℕ Refusal
counted n (Ok es) = Ok (n + length es)
counted n (Err refusal) = Err refusal

-- from an offset on, of a packet alone
abbrev pub entries_at : Services → List ℕ → ℕ → Entries
entries_at services s at = tested (head_tests services None s) (entries_from (services (code_of s)) (code_of s) s at)

-- the entries of a packet are what reading gives at 12, then at the next offset, and so on to the end
abbrev pub ByReading : Type 0
ByReading = (services : Services) (s : List ℕ)
    → (entries services None s ≡ entries_at services s 12)
    × ((at : ℕ) → entries_at services s at ≡ onward (reading services s at) (entries_at services s))
