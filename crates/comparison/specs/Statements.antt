-- What comparing asks of an entry.
use Rattle.std.specs.Prelude.{◌≡◌, ℕ, ◌^◌, ◌<◌, true, is_ok}
use Rattle.tecmp.specs.Reading.{Entry}
use Rattle.records.specs.Services.{Services, checked_by}
use Rattle.records.specs.Verdicts.{Bytes}

-- the kind accepts its record
abbrev pub Accepted : Services → Entry → Type 0
Accepted services e = is_ok (checked_by (services e.code) e.flags e.bytes) ≡ true

-- its flags are a number of sixteen bits, and its data are bytes
abbrev pub InRange : Entry → Type 0
InRange e = (e.flags < 2 ^ 16) × Bytes e.bytes
