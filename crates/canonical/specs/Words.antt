-- The words of a copy.
use Rattle.std.specs.Prelude.{ℕ}
use Rattle.canonical.specs.declared.bytes.WordKind.{WordKind}
use Rattle.canonical.specs.declared.bytes.WordKind.TheVariants.{Packet, Closing}

-- the number of a kind of words
abbrev pub kind_number : WordKind → ℕ
kind_number Packet = 1
kind_number Closing = 2
