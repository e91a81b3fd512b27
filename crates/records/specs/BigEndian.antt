-- Numbers of any width as bytes, the highest first.
use Rattle.std.specs.Prelude.{ℕ, zero, suc, ◌+◌, ◌*◌, ◌/◌, ◌%◌, ◌^◌, List, [], ◌∷◌}

-- the number that goes on with these bytes
abbrev pub big_on : ℕ → List ℕ → ℕ
big_on a [] = a
big_on a (b ∷ bs) = big_on (a * 256 + b) bs

abbrev pub big : List ℕ → ℕ
big bs = big_on 0 bs

-- the lowest so many bytes of a number
abbrev pub low : ℕ → ℕ → List ℕ
low zero n = []
low (suc k) n = (n / 2 ^ (8 * k) % 256) ∷ low k n
