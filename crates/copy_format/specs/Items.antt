-- What a copy holds of an entry, and which of these may stand in one packet.
use Rattle.std.specs.Prelude.{ℕ, ◌+◌, Bool, true, false, ◌&&◌, ◌||◌, List, [], ◌∷◌, length, ◌==◌, nat_le}
use Rattle.records.specs.Codes.{code_with}
use Rattle.records.specs.Services.{Services, shares_in, canonical_flags_by, canonical_by}
use Rattle.records.specs.declared.code.MessageType.{MessageType}
use Rattle.tecmp.specs.Reading.{Entry}

-- an entry in its canonical encoding; the message type is the copy's
pub record Item : Type 0 where
  pub data_type : ℕ
  pub interface : ℕ
  pub time : ℕ
  pub flags : ℕ
  pub bytes : List ℕ

abbrev pub item_of : Services → Entry → Item
item_of services e = record {
  data_type = e.code.data_type;
  interface = e.interface;
  time = e.time;
  flags = canonical_flags_by (services e.code) e.flags e.bytes;
  bytes = canonical_by (services e.code) e.flags e.bytes;
}

-- the bytes of an entry, head and data
abbrev pub size : Item → ℕ
size i = 16 + length i.bytes

abbrev pub sizes : List Item → ℕ
sizes [] = 0
sizes (i ∷ is) = size i + sizes is

abbrev pub all_of_type : ℕ → List Item → Bool
all_of_type type [] = true
all_of_type type (i ∷ is) = type == i.data_type && all_of_type type is

abbrev pub none : List Item → Bool
none [] = true
none (i ∷ is) = false

-- one packet: within the limit, of one code, and only one entry where the code does not share
abbrev pub allowed : (ℕ → Bool) → ℕ → List Item → Bool
allowed shares limit [] = true
allowed shares limit (i ∷ is) = nat_le (12 + sizes (i ∷ is)) limit && (all_of_type i.data_type is && (none is || shares i.data_type))

-- whether a data type shares packets, in a copy of this message type
abbrev pub sharing : Services → MessageType → ℕ → Bool
sharing services type data_type = shares_in (services (code_with type data_type))
