-- Single bits of a word.
use Rattle.std.specs.Prelude.{ℕ, ◌/◌, ◌%◌, ◌^◌, Bool, ◌==◌}

abbrev pub bit_of : ℕ → ℕ → ℕ
bit_of word at = word / 2 ^ at % 2

-- whether the bit is set
abbrev pub flag : ℕ → ℕ → Bool
flag word at = bit_of word at == 1
