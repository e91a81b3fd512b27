-- The number of each refusal.
use Rattle.std.specs.Prelude.{ℕ}
use Rattle.losses.specs.declared.refusal.TableRefusal.{TableRefusal}
use Rattle.losses.specs.declared.refusal.TableRefusal.TheVariants.{NoRowLeft, NoSuchRow}

abbrev pub number_of : TableRefusal → ℕ
number_of NoRowLeft = 31
number_of NoSuchRow = 32
