-- A packet whose head was read: what is read at an offset of it, and its entries.
use Rattle.std.specs.Prelude.{ℕ, Ok, Err, Result}
use Rattle.records.specs.Services.{Services}
use Rattle.records.specs.declared.refusal.Refusal.{Refusal}
use Rattle.tecmp.specs.Entries.{Entries, entries_by}
use Rattle.tecmp.specs.Reading.{Answer, inside_by}
use Rattle.tecmp.specs.declared.head.Head.{Head}
use Rattle.tecmp.specs.declared.packet.Packet.{Packet}

-- its head, or the refusal
abbrev pub head_in : {R : Type 0} → Result (Packet R) Refusal → Result Head Refusal
head_in (Ok packet) = Ok packet.head
head_in (Err refusal) = Err refusal

-- by the head, whichever it is
module _ {R : Type 0} (services : R → Services) (packet : Packet R) where
  abbrev pub read_in : ℕ → Answer
  read_in at = inside_by (services packet.registry.now packet.head.code) packet.head.shares packet.head.code packet.bytes.now at

  -- from an offset on
  abbrev pub packet_entries : ℕ → Entries
  packet_entries at = entries_by (services packet.registry.now packet.head.code) packet.head.shares packet.head.code packet.bytes.now at
