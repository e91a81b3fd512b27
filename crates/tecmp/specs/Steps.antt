-- Going over the entries of a packet: what a step gives, and what is left.
use Rattle.std.specs.Prelude.{◌≡◌, ℕ, suc, ◌-◌, [], length, Some, None, Ok, Err, Option, Result}
use Rattle.records.specs.Services.{Services}
use Rattle.records.specs.declared.refusal.Refusal.{Refusal}
use Rattle.tecmp.specs.Entries.{Entries}
use Rattle.tecmp.specs.Packets.{read_in, packet_entries}
use Rattle.tecmp.specs.Reading.{Answer}
use Rattle.tecmp.specs.Views.{viewed}
use Rattle.tecmp.specs.declared.entries.PacketEntries.{PacketEntries}
use Rattle.tecmp.specs.declared.entry.EntryView.{EntryView}
use Rattle.tecmp.specs.declared.packet.Packet.{Packet}

-- in a packet of so many bytes no more steps than these give something; an entry takes more than 16 of them
abbrev pub steps_from : ℕ → Option ℕ → ℕ
steps_from size None = 0
steps_from size (Some at) = suc (size - at)

abbrev pub steps_left : {R : Type 0} → PacketEntries R → ℕ
steps_left s = steps_from (length s.packet.bytes.now) s.next

module _ {R : Type 0} (services : R → Services) where
  -- what is read next, and the entries from there on; after the end, and after a refusal, none is left
  abbrev pub read_from : Packet R → Option ℕ → Answer
  read_from packet None = Ok None
  read_from packet (Some at) = read_in services packet at

  abbrev pub entries_left : Packet R → Option ℕ → Entries
  entries_left packet None = Ok []
  entries_left packet (Some at) = packet_entries services packet at

  abbrev pub left : PacketEntries R → Entries
  left s = entries_left s.packet s.next

-- by what is read: what a step gives, and where the next one reads
abbrev pub Gives : Answer → Option (Result EntryView Refusal) → Option ℕ → Type 0
Gives answer None next = (answer ≡ Ok None) × (next ≡ None)
Gives answer (Some (Ok e)) next = (at : ℕ) × (answer ≡ Ok (Some (record { entry = viewed e; next = at }))) × (next ≡ Some at)
Gives answer (Some (Err refusal)) next = (answer ≡ Err refusal) × (next ≡ None)

abbrev pub Steps : {R : Type 0} → (R → Services) → PacketEntries R → Option (Result EntryView Refusal) → PacketEntries R → Type 0
Steps services s given t = Gives (read_from services s.packet s.next) given t.next × (t.packet ≡ s.packet)
