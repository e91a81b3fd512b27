-- The whole answer of each call on a copy, and what copy and output then hold.
use Rattle.std.specs.Prelude.{◌≡◌, ℕ, ◌+◌, ◌^◌, ◌<◌, ◌≤◌, Bool, cond, ◌&&◌, List, [], ◌∷◌, length, drop, is_ok, Some, None, Ok, Err, Option, Result, ◌==◌, nat_le, nat_lt}
use Rattle.records.specs.Codes.{code_with, type_of}
use Rattle.records.specs.Services.{Services, is_served, checked_by}
use Rattle.records.specs.Tests.{tested, and_then}
use Rattle.records.specs.Verdicts.{Bytes}
use Rattle.records.specs.declared.code.MessageType.{MessageType}
use Rattle.records.specs.declared.code.MessageType.TheVariants.{LoggingStream, ReplayData}
use Rattle.records.specs.declared.refusal.Refusal.{Refusal}
use Rattle.records.specs.declared.refusal.Refusal.TheVariants.{TooLong, UnknownCode, NoData, NoTime, Record, OutputFull, NoEntries, Opening, OutputLength}
use Rattle.tecmp.specs.Entries.{Entries, entries}
use Rattle.tecmp.specs.Layout.{time_of, has_time}
use Rattle.tecmp.specs.Reading.{Entry}
use Rattle.tecmp.specs.declared.head.Stream.{Stream}
use Rattle.copy_format.specs.Image.{word}
use Rattle.canonical.specs.States.{nothing, after_all, after, put_all, spliced}
use Rattle.canonical.specs.declared.state.Closed.{Closed}
use Rattle.canonical.specs.declared.state.Extent.{Extent}
use Rattle.canonical.specs.declared.state.State.{State}

-- open: a logged copy is of a module up to 255, a replay copy of module 0
abbrev pub stream_of : Option MessageType → ℕ → Option Stream
stream_of None device = None
stream_of (Some LoggingStream) device = cond (nat_le device 255) (Some (record { message_type = LoggingStream; «module» = device })) None
stream_of (Some ReplayData) device = cond (device == 0) (Some (record { message_type = ReplayData; «module» = device })) None

-- an output of so many bytes
abbrev pub may_open : ℕ → Bool
may_open lent = nat_le 4 lent && nat_le lent 16777216

abbrev pub opened_into : ℕ → Option Stream → Result State Refusal
opened_into lent None = Err Opening
opened_into lent (Some stream) =
    tested ((may_open lent, OutputLength) ∷ []) (Ok (record { stream = stream; capacity = lent; extent = nothing }))

abbrev pub opened : ℕ → ℕ → ℕ → Result State Refusal
opened direction device lent = opened_into lent (stream_of (type_of direction) device)

-- what `add` is handed, of the types u16, u32, u64, u16 and [u8]
pub record Addition : Type 0 where
  pub data_type : ℕ
  pub interface : ℕ
  pub time_word : ℕ
  pub flags : ℕ
  pub bytes : List ℕ

abbrev pub addition : ℕ → ℕ → ℕ → ℕ → List ℕ → Addition
addition data_type interface time_word flags bytes = record { data_type = data_type; interface = interface; time_word = time_word; flags = flags; bytes = bytes }

pub record Typed (a : Addition) : Type 0 where
  pub type_fits : a.data_type < 2 ^ 16
  pub interface_fits : a.interface < 2 ^ 32
  pub time_fits : a.time_word < 2 ^ 64
  pub flags_fit : a.flags < 2 ^ 16
  pub are_bytes : Bytes a.bytes

-- the entry it stands for: the message type is the copy's
abbrev pub entry_of : Stream → Addition → Entry
entry_of stream a = record {
  code = code_with stream.message_type a.data_type;
  interface = a.interface;
  time = time_of stream.message_type a.time_word;
  flags = a.flags;
  bytes = a.bytes;
  from = 0;
}

abbrev pub reaching : State → Extent → State
reaching s x = record { stream = s.stream; capacity = s.capacity; extent = x }

-- copy and output after a call that would let these entries in: all of them, or, refused, as they were
abbrev pub Leaves : Services → State → List Entry → List ℕ → Result (Unit {0}) Refusal → State → List ℕ → Type 0
Leaves services s es out (Ok done) s' out' =
    (s' ≡ reaching s (after_all services s.extent es)) × (out' ≡ put_all services s.stream s.extent es out)
Leaves services s es out (Err refusal) s' out' = (s' ≡ s) × (out' ≡ out)

-- add, with an output of so many bytes
abbrev pub add_tests : Services → State → Entry → ℕ → List (Bool × Refusal)
add_tests services s e lent =
    ((lent == s.capacity), OutputLength)
    ∷ (nat_lt 0 (length e.bytes), NoData 0)
    ∷ (nat_le (length e.bytes) 1472, TooLong)
    ∷ (has_time s.stream.message_type e.time, NoTime 0)
    ∷ (is_served (services e.code), UnknownCode)
    ∷ (is_ok (checked_by (services e.code) e.flags e.bytes), Record 0)
    ∷ (nat_le ((after services s.extent e).length + 4) s.capacity, OutputFull) ∷ []

abbrev pub Adds : Services → State → List ℕ → Addition → Result (Unit {0}) Refusal → State → List ℕ → Type 0
Adds services s out a r s' out' =
    (r ≡ tested (add_tests services s (entry_of s.stream a) (length out)) (Ok tt))
    × Leaves services s (entry_of s.stream a ∷ []) out r s' out'

-- take: the packet's own tests against the copy, each entry in turn, then the room for all of them
abbrev pub room : Services → State → List Entry → Result (Unit {0}) Refusal
room services s es = tested ((nat_le ((after_all services s.extent es).length + 4) s.capacity, OutputFull) ∷ []) (Ok tt)

abbrev pub taken : Services → State → List ℕ → ℕ → Result (Unit {0}) Refusal
taken services s packet lent =
    tested (((lent == s.capacity), OutputLength) ∷ []) (and_then (entries services (Some s.stream) packet) (room services s))

abbrev pub listed : Entries → List Entry
listed (Ok es) = es
listed (Err refusal) = []

abbrev pub entries_in : Services → State → List ℕ → List Entry
entries_in services s packet = listed (entries services (Some s.stream) packet)

abbrev pub Takes : Services → State → List ℕ → List ℕ → Result (Unit {0}) Refusal → State → List ℕ → Type 0
Takes services s out packet r s' out' = (r ≡ taken services s packet (length out)) × Leaves services s (entries_in services s packet) out r s' out'

-- close
abbrev pub closing : State → Closed
closing s = record { bytes = s.extent.length + 4; entries = s.extent.entries; packets = s.extent.packets }

abbrev pub closed : State → ℕ → Result Closed Refusal
closed s lent = tested (((lent == s.capacity), OutputLength) ∷ (nat_lt 0 s.extent.entries, NoEntries) ∷ []) (Ok (closing s))

abbrev pub Ends : State → List ℕ → Result Closed Refusal → List ℕ → Type 0
Ends s out (Ok c) out' = out' ≡ spliced out s.extent.length (word 2 s.extent.entries)
Ends s out (Err refusal) out' = out' ≡ out

abbrev pub Closes : State → List ℕ → Result Closed Refusal → List ℕ → Type 0
Closes s out r out' = (r ≡ closed s (length out)) × Ends s out r out'

-- what an output holds past the copy, no call changes
abbrev pub KeepsBeyond : Services → Type 0
KeepsBeyond services = (s s' : State) (out out' : List ℕ)
    → ((a : Addition) (r : Result (Unit {0}) Refusal) → Adds services s out a r s' out' → drop s'.extent.length out' ≡ drop s'.extent.length out)
    × ((packet : List ℕ) (r : Result (Unit {0}) Refusal) → Takes services s out packet r s' out' → drop s'.extent.length out' ≡ drop s'.extent.length out)
    × ((c : Closed) → s.extent.length + 4 ≤ length out → Closes s out (Ok c) out' → drop c.bytes out' ≡ drop c.bytes out)
