-- The law of closed copies: their bytes are equal exactly where their entries say the same, they are read back as these
-- entries, and no allowed packets are fewer.
use Rattle.std.specs.Prelude.{◌≡◌, ℕ, ◌≤◌, List, [], ◌∷◌, map, length, take, Ok}
use Rattle.std.specs.List.{AllByRecursion}
use Rattle.records.specs.Codes.{type_number}
use Rattle.records.specs.Services.{Services, canonical_flags_by, canonical_by}
use Rattle.tecmp.specs.Reading.{Entry}
use Rattle.tecmp.specs.Statements.{stated}
use Rattle.tecmp.specs.declared.head.Stream.{Stream}
use Rattle.copy_format.specs.Cutting.{flat, Passes}
use Rattle.copy_format.specs.Image.{packet_limit}
use Rattle.copy_format.specs.Items.{Item, item_of, allowed, sharing}
use Rattle.copy_format.specs.ReadingBack.{without_offset, item_read, Contents, entries_of, read_back}
use Rattle.canonical.specs.Calls.{opened, Addition, addition, Adds, Closes}
use Rattle.canonical.specs.Log.{Log, Faithful}
use Rattle.canonical.specs.declared.state.Closed.{Closed}
use Rattle.canonical.specs.declared.state.State.{State}

abbrev pub Exactly : Type 0 → Type 0 → Type 0
Exactly A B = (A → B) × (B → A)

-- an entry in its canonical encoding, of no packet
abbrev pub canonical_entry : Services → Entry → Entry
canonical_entry services e = record {
  code = e.code;
  interface = e.interface;
  time = e.time;
  flags = canonical_flags_by (services e.code) e.flags e.bytes;
  bytes = canonical_by (services e.code) e.flags e.bytes;
  from = 0;
}

-- what `add` is handed to add an entry that was read
abbrev pub again : Entry → Addition
again e = addition e.code.data_type e.interface e.time e.flags e.bytes

-- entries added one after the other, and each done
abbrev pub AddsAll : Services → State → List ℕ → List Entry → State → List ℕ → Type 0
AddsAll services s out [] s' out' = (s' ≡ s) × (out' ≡ out)
AddsAll services s out (e ∷ es) s' out' = (next : State) × (after : List ℕ) × Adds services s out (again e) (Ok tt) next after × AddsAll services next after es s' out'

-- entries added to a new copy of a stream, in an output that holds anything, and the copy closed
pub record AddedAgain (services : Services) (stream : Stream) (es : List Entry) (c : Closed) (bytes output : List ℕ) : Type 0 where
  pub first : State
  pub opens : opened (type_number stream.message_type) stream.«module» (length output) ≡ Ok first
  pub last : State
  pub filled : List ℕ
  pub adds : AddsAll services first output es last filled
  pub final : List ℕ
  pub closes : Closes last filled (Ok c) final
  pub same_bytes : take c.bytes final ≡ bytes

-- allowed packets that hold these entries, in order and in their canonical encoding
abbrev pub Cuts : Services → Stream → List Entry → List (List Item) → Type 0
Cuts services stream es ps = AllByRecursion (Passes (allowed (sharing services stream.message_type) packet_limit)) ps × (flat ps ≡ map (item_of services) es)

-- of a copy that has accepted these entries, and was closed with this answer and output
pub record Law (services : Services) (s : State) (es : List Entry) (c : Closed) (out : List ℕ) : Type 0 where
  -- of two closed copies the bytes are equal exactly where the copies were opened alike, and their entries agree in
  -- number, order, code, interface, time and sense
  pub told_apart : (s' : State) (before' : List ℕ) (es' : List Entry) (c' : Closed) (out' : List ℕ)
      → Log services s' before' es' → Closes s' before' (Ok c') out'
      → Exactly (take c.bytes out ≡ take c'.bytes out') ((s.stream ≡ s'.stream) × (map (stated services) es ≡ map (stated services) es'))
  -- the bytes are read back as these entries, each in its canonical encoding
  pub contents : Contents
  pub reads : read_back services (take c.bytes out) ≡ Ok contents
  pub of_stream : contents.stream ≡ s.stream
  pub gives : map without_offset (entries_of contents) ≡ map (canonical_entry services) es
  pub says : map (stated services) (entries_of contents) ≡ map (stated services) es
  -- these, added again to a new copy opened alike with room for the bytes, are each accepted, and give the same bytes
  pub again_same : (output : List ℕ) → c.bytes ≤ length output → length output ≤ 16777216
      → AddedAgain services s.stream (entries_of contents) c (take c.bytes out) output
  -- the bytes hold so many packets; these are allowed and hold just the entries, and no other allowed packets that do are fewer
  pub packets : c.packets ≡ length contents.packets
  pub cut : Cuts services s.stream es (map (map item_read) contents.packets)
  pub fewest : (ps : List (List Item)) → Cuts services s.stream es ps → c.packets ≤ length ps

-- whatever calls led to the close
abbrev pub AnyLog : Services → State → List ℕ → Closed → List ℕ → Type 0
AnyLog services s out c out' = (es : List Entry) → Log services s out es → Faithful services s es c out' × Law services s es c out'
