-- The rule of reading a copy back: its words in turn, each packet by its own tests, and what the copy holds.
use Rattle.std.specs.Prelude.{◌≡◌, ℕ, zero, suc, ◌+◌, ◌/◌, ◌%◌, ◌^◌, cond, ◌&&◌, List, [], ◌∷◌, map, length, take, drop, Some, Ok, Err, Result, ◌==◌, nat_le, nat_lt}
use Rattle.records.specs.Services.{Services}
use Rattle.records.specs.Tests.{tested, and_then}
use Rattle.records.specs.declared.refusal.Refusal.{Refusal}
use Rattle.records.specs.declared.refusal.Refusal.TheVariants.{PastEnd, NoData, NoTime, NotShared, Padding, Record, OutputLength, MalformedCopy}
use Rattle.tecmp.specs.Entries.{Entries, entries}
use Rattle.tecmp.specs.Heads.{read_of}
use Rattle.tecmp.specs.Layout.{be4, zeros, message_type, device_id}
use Rattle.tecmp.specs.Reading.{Entry}
use Rattle.tecmp.specs.declared.head.Stream.{Stream}
use Rattle.copy_format.specs.Cutting.{flat}
use Rattle.copy_format.specs.Image.{filling}
use Rattle.copy_format.specs.Items.{Item}

-- offsets in a packet, counted from the start of the copy
abbrev pub moved : ℕ → Refusal → Refusal
moved base (PastEnd at) = PastEnd (base + at)
moved base (NoData at) = NoData (base + at)
moved base (NoTime at) = NoTime (base + at)
moved base (NotShared at) = NotShared (base + at)
moved base (Padding at) = Padding (base + at)
moved base (Record at) = Record (base + at)
moved base refusal = refusal

abbrev pub entry_moved : ℕ → Entry → Entry
entry_moved base e = record { code = e.code; interface = e.interface; time = e.time; flags = e.flags; bytes = e.bytes; from = base + e.from }

-- an entry without what depends on where it stood
abbrev pub without_offset : Entry → Entry
without_offset e = record { code = e.code; interface = e.interface; time = e.time; flags = e.flags; bytes = e.bytes; from = 0 }

-- an entry as it was read, as what a packet holds
abbrev pub item_read : Entry → Item
item_read e = record { data_type = e.code.data_type; interface = e.interface; time = e.time; flags = e.flags; bytes = e.bytes }

abbrev pub all_moved : ℕ → Entries → Entries
all_moved base (Ok es) = Ok (map (entry_moved base) es)
all_moved base (Err refusal) = Err (moved base refusal)

-- what begins with a word: a packet of so many bytes with its filling, a closing word with a count, or neither
pub data Part : Type 0 where
  packet_of : ℕ → Part
  closing : ℕ → Part
  malformed : Part

-- t is what follows the word
abbrev pub filled : ℕ → List ℕ → Part
filled size t = cond (nat_le (size + filling size) (length t) && zeros (take (filling size) (drop size t))) (packet_of size) malformed

abbrev pub by_kind : ℕ → ℕ → List ℕ → Part
by_kind kind number t = cond (kind == 1) (filled number t) (cond (kind == 2) (closing number) malformed)

-- t is what is left of the copy
abbrev pub part_of : List ℕ → Part
part_of t = cond (nat_lt (length t) 4) malformed (by_kind (be4 t 0 / 2 ^ 28) (be4 t 0 % 2 ^ 28) (drop 4 t))

-- the entries of each packet
abbrev pub Packets : Type 0
Packets = Result (List (List Entry)) Refusal

abbrev pub with_packet : List Entry → Packets → Packets
with_packet es (Ok ps) = Ok (es ∷ ps)
with_packet es (Err refusal) = Err refusal

-- the stream of a packet; in replay the module is not read
abbrev pub stream_of : List ℕ → Stream
stream_of packet = record { message_type = message_type packet; «module» = read_of (message_type packet) (device_id packet) }

-- the stream of a copy is the one of its first packet
abbrev pub first_packet : Part → List ℕ → List ℕ
first_packet (packet_of size) s = take size (drop 4 s)
first_packet (closing number) s = []
first_packet malformed s = []

abbrev pub stream_in : List ℕ → Stream
stream_in s = stream_of (first_packet (part_of s) s)

module _ (services : Services) (stream : Stream) (s : List ℕ) where
  -- at an offset, after so many entries: a packet and what follows it, or the closing word at the very end
  abbrev pub onward : Part → ℕ → ℕ → (ℕ → ℕ → Packets) → Packets
  onward (packet_of size) at count rest =
      and_then (all_moved (at + 4) (entries services (Some stream) (take size (drop (at + 4) s))))
      (λ es. with_packet es (rest (at + 4 + (size + filling size)) (count + length es)))
  onward (closing number) at count rest = tested ((length s == at + 4 && (number == count && nat_lt 0 number), MalformedCopy) ∷ []) (Ok [])
  onward malformed at count rest = Err MalformedCopy

  -- in so many steps; each takes four bytes or more
  abbrev pub packets_in : ℕ → ℕ → ℕ → Packets
  packets_in zero at count = Err MalformedCopy
  packets_in (suc n) at count = onward (part_of (drop at s)) at count (packets_in n)

  abbrev pub packets_from : ℕ → ℕ → Packets
  packets_from at count = packets_in (length s) at count

-- what a copy holds: direction and module as its first packet has them, and the entries of each packet
pub record Contents : Type 0 where
  pub stream : Stream
  pub packets : List (List Entry)

abbrev pub entries_of : Contents → List Entry
entries_of c = flat c.packets

abbrev pub largest_copy : ℕ
largest_copy = 16777216

-- a whole copy
abbrev pub read_back : Services → List ℕ → Result Contents Refusal
read_back services s =
    tested ((nat_le (length s) largest_copy, OutputLength) ∷ [])
    (and_then (packets_from services (stream_in s) s 0 0) (λ ps. Ok (record { stream = stream_in s; packets = ps })))

-- from any offset on, a copy is what its word says and what follows it
abbrev pub ByWords : Type 0
ByWords = (services : Services) (stream : Stream) (s : List ℕ) (at count : ℕ)
    → packets_from services stream s at count ≡ onward services stream s (part_of (drop at s)) at count (packets_from services stream s)
