-- What it is to encode an entry's record into a buffer.
use Rattle.std.specs.Prelude.{◌≡◌, ℕ, true, false, Bool, ◌&&◌, length, is_ok, Some, None, Option, nat_le}
use Rattle.records.specs.Services.{Services, checked_by, canonical_flags_by, canonical_by}
use Rattle.tecmp.specs.Reading.{Entry}
use Rattle.comparison.specs.declared.content.Encoding.{Encoding}

-- its kind accepts it, and its canonical data fit so many bytes
abbrev pub encodable : Services → Entry → ℕ → Bool
encodable services e room =
    is_ok (checked_by (services e.code) e.flags e.bytes) && nat_le (length (canonical_by (services e.code) e.flags e.bytes)) room

-- into a buffer of so many bytes
abbrev pub Encodes : Services → Entry → ℕ → Option Encoding → Type 0
Encodes services e room None = encodable services e room ≡ false
Encodes services e room (Some encoding) =
    (encodable services e room ≡ true)
    × (encoding.flags ≡ canonical_flags_by (services e.code) e.flags e.bytes)
    × (encoding.«data».now ≡ canonical_by (services e.code) e.flags e.bytes)
