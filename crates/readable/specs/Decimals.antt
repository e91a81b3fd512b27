-- Ten-thousandths as a decimal number: sign, whole part, and without trailing zeros the digits after the point.
use Rattle.std.specs.Prelude.{ℕ, ◌/◌, ◌%◌, cond, List, [], ◌++◌, ℤ, pos, negsuc, ◌==◌, codes, decimal, unsigned_abs}

-- the digits of a fraction under one, from the left, until only zeros are left
abbrev pub fraction_digits : ℕ → List ℕ
fraction_digits n =
    decimal (n / 1000) ++ cond (n % 1000 == 0) []
    (decimal (n / 100 % 10) ++ cond (n % 100 == 0) []
    (decimal (n / 10 % 10) ++ cond (n % 10 == 0) []
    (decimal (n % 10))))

abbrev pub fraction_text : ℕ → List ℕ
fraction_text n = cond (n == 0) [] (codes "." ++ fraction_digits n)

abbrev pub minus : ℤ → List ℕ
minus (pos n) = []
minus (negsuc n) = codes "-"

abbrev pub decimal_text : ℤ → List ℕ
decimal_text z = minus z ++ (decimal (unsigned_abs z / 10000) ++ fraction_text (unsigned_abs z % 10000))
