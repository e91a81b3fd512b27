-- How far a copy reaches after an entry, and what its output then holds.
use Rattle.std.specs.Prelude.{ℕ, ◌+◌, Bool, cond, ◌&&◌, List, [], ◌∷◌, ◌++◌, length, take, drop, replicate, Some, None, Option, ◌==◌, nat_le}
use Rattle.records.specs.Services.{Services, shares_in}
use Rattle.tecmp.specs.Reading.{Entry}
use Rattle.tecmp.specs.declared.head.Stream.{Stream}
use Rattle.copy_format.specs.Image.{packet_limit, packet_head, item_bytes, word, filling}
use Rattle.copy_format.specs.Items.{Item, item_of, size}
use Rattle.canonical.specs.declared.state.OpenPacket.{OpenPacket}
use Rattle.canonical.specs.declared.state.Extent.{Extent}

-- a packet of n bytes with its word and its filling
abbrev pub frame : ℕ → ℕ
frame n = 4 + (n + filling n)

abbrev pub nothing : Extent
nothing = record { length = 0; entries = 0; packets = 0; last = None }

-- an entry of n bytes joins a packet: the code is the same, shares, and the packet stays within the limit
abbrev pub takes : OpenPacket → Bool → ℕ → ℕ → Bool
takes p shares type n = nat_le (p.size + n) packet_limit && (p.data_type == type && shares)

-- the last packet, where the entry joins it
abbrev pub joined_by : Option OpenPacket → Bool → ℕ → ℕ → Option OpenPacket
joined_by None shares type n = None
joined_by (Some p) shares type n = cond (takes p shares type n) (Some p) None

-- the packet that the entry goes into: the one it joins, or a new one, of which only the head is there
abbrev pub packet_for : Extent → Option OpenPacket → ℕ → OpenPacket
packet_for x (Some p) type = p
packet_for x None type = record { begins = x.length; size = 12; data_type = type }

abbrev pub packets_with : Extent → Option OpenPacket → ℕ
packets_with x (Some p) = x.packets
packets_with x None = x.packets + 1

abbrev pub grown : OpenPacket → ℕ → OpenPacket
grown p n = record { begins = p.begins; size = p.size + n; data_type = p.data_type }

abbrev pub extended : Extent → Option OpenPacket → ℕ → ℕ → Extent
extended x joined type n = record {
  length = (packet_for x joined type).begins + frame ((packet_for x joined type).size + n);
  entries = x.entries + 1;
  packets = packets_with x joined;
  last = Some (grown (packet_for x joined type) n);
}

-- the output with bytes at an offset
abbrev pub spliced : List ℕ → ℕ → List ℕ → List ℕ
spliced out at bytes = take at out ++ (bytes ++ drop (at + length bytes) out)

-- a new packet begins with its head
abbrev pub begun : Stream → Extent → Option OpenPacket → ℕ → List ℕ → List ℕ
begun stream x (Some p) type out = out
begun stream x None type out = spliced out (x.length + 4) (packet_head stream (x.packets + 1) type)

-- the packet's word is written anew, and the item and the filling after what the packet holds
abbrev pub appended : OpenPacket → Item → List ℕ → List ℕ
appended p i out =
    spliced (spliced out p.begins (word 1 (p.size + size i))) (p.begins + 4 + p.size) (item_bytes i ++ replicate (filling (p.size + size i)) 0)

module _ (services : Services) where
  abbrev pub takes_entry : OpenPacket → Entry → Bool
  takes_entry p e = takes p (shares_in (services e.code)) e.code.data_type (size (item_of services e))

  abbrev pub joined_in : Extent → Entry → Option OpenPacket
  joined_in x e = joined_by x.last (shares_in (services e.code)) e.code.data_type (size (item_of services e))

  -- the extent after an entry, and the output
  abbrev pub after : Extent → Entry → Extent
  after x e = extended x (joined_in x e) e.code.data_type (size (item_of services e))

  abbrev pub put : Stream → Extent → Entry → List ℕ → List ℕ
  put stream x e out = appended (packet_for x (joined_in x e) e.code.data_type) (item_of services e) (begun stream x (joined_in x e) e.code.data_type out)

  -- the same after several
  abbrev pub after_all : Extent → List Entry → Extent
  after_all x [] = x
  after_all x (e ∷ es) = after_all (after x e) es

  abbrev pub put_all : Stream → Extent → List Entry → List ℕ → List ℕ
  put_all stream x [] out = out
  put_all stream x (e ∷ es) out = put_all stream (after x e) es (put stream x e out)
