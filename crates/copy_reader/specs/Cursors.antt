-- What is left of a copy from a cursor on.
use Rattle.std.specs.Prelude.{◌≡◌, ◌+◌, ◌<◌, ◌≤◌, true, List, [], ◌∷◌, ◌++◌, map, length, is_ok, Some, None, Ok, Err, Option}
use Rattle.std.specs.Option.{ForSome}
use Rattle.records.specs.Services.{Services}
use Rattle.tecmp.specs.Entries.{Entries}
use Rattle.tecmp.specs.Packets.{packet_entries}
use Rattle.tecmp.specs.Reading.{Entry}
use Rattle.copy_format.specs.Cutting.{flat}
use Rattle.copy_format.specs.ReadingBack.{entry_moved, Packets, packets_from, largest_copy}
use Rattle.copy_reader.specs.declared.cursor.Place.{Place}
use Rattle.copy_reader.specs.declared.cursor.Cursor.{Cursor}

-- the entries, where none is refused
abbrev pub listed : Entries → List Entry
listed (Ok es) = es
listed (Err refusal) = []

abbrev pub flattened : Packets → List Entry
flattened (Ok ps) = flat ps
flattened (Err refusal) = []

-- of the same copy and stream, by the same registry
abbrev pub Alike : {R : Type 0} → Cursor R → Cursor R → Type 0
Alike d c = (d.registry.now ≡ c.registry.now) × (d.stream ≡ c.stream) × (d.copy.now ≡ c.copy.now)

module _ {R : Type 0} (services : R → Services) where
  -- of the packet that is being read, counted from the start of the copy
  abbrev pub entries_left : Place R → List Entry
  entries_left place = map (entry_moved place.base) (listed (packet_entries services place.packet place.offset))

  -- from there on nothing in it is refused, and it lies within a copy
  abbrev pub Passed : Place R → Type 0
  Passed place = (is_ok (packet_entries services place.packet place.offset) ≡ true) × (place.base + length place.packet.bytes.now ≤ largest_copy)

  abbrev pub left_here : Option (Place R) → List Entry
  left_here None = []
  left_here (Some place) = entries_left place

  -- of the packets after it, by the rule
  abbrev pub packets_left : Cursor R → Packets
  packets_left c = packets_from (services c.registry.now) c.stream c.copy.now c.next (c.handed + length (left_here c.place))

  abbrev pub left_from : Cursor R → List Entry
  left_from c = left_here c.place ++ flattened (packets_left c)

  -- nothing that is left is refused; each entry takes more than a byte, so their number stays below the offset
  pub record Sound (c : Cursor R) : Type 0 where
    pub small : length c.copy.now ≤ largest_copy
    pub within : c.next ≤ length c.copy.now
    pub few : c.handed + length (left_here c.place) ≤ c.next
    pub here : ForSome c.place Passed
    pub after : is_ok (packets_left c) ≡ true

  -- d comes after c has handed out its first entry
  pub record Hands (c : Cursor R) (first : Entry) (d : Cursor R) : Type 0 where
    pub left : left_from c ≡ first ∷ left_from d
    pub alike : Alike d c
    pub sound : Sound d

  -- d stands at a packet with an entry, and has the same left
  pub record Opens (c d : Cursor R) : Type 0 where
    pub left : left_from c ≡ left_from d
    pub alike : Alike d c
    pub sound : Sound d
    pub some : 0 < length (left_here d.place)
