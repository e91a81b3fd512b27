-- Whether two packets hold the same load, and where they first part.
use Rattle.std.specs.Prelude.{◌≡◌, ℕ, true, List, [], ◌∷◌, map, length, take, drop, is_ok, Some, None, Ok, Err, Option, Result, ◌≢◌}
use Rattle.tecmp.specs.Entries.{Entries, entries}
use Rattle.records.specs.Services.{Services}
use Rattle.tecmp.specs.Statements.{Statement, stated}
use Rattle.comparison.specs.declared.packets.Field.{Field}
use Rattle.comparison.specs.declared.packets.Field.TheVariants.{Presence, Code, Interface, Time, Content}
use Rattle.comparison.specs.declared.packets.Comparison.{Comparison}
use Rattle.comparison.specs.declared.packets.Comparison.TheVariants.{Same, Different}
use Rattle.comparison.specs.declared.packets.RefusedPacket.{RefusedPacket}
use Rattle.comparison.specs.declared.packets.RefusedPacket.TheVariants.{First, Second}

-- two statements differ first in this field: those before it agree
abbrev pub DiffersIn : Statement → Statement → Field → Type 0
DiffersIn x y Presence = ⊥
DiffersIn x y Code = x.code ≡ y.code → ⊥
DiffersIn x y Interface = (x.code ≡ y.code) × (x.interface ≢ y.interface)
DiffersIn x y Time = (x.code ≡ y.code) × (x.interface ≡ y.interface) × (x.time ≢ y.time)
DiffersIn x y Content = (x.code ≡ y.code) × (x.interface ≡ y.interface) × (x.time ≡ y.time) × (x.sense ≢ y.sense)

-- what `first_difference` answers
abbrev pub Differs : Statement → Statement → Option Field → Type 0
Differs x y None = x ≡ y
Differs x y (Some field) = DiffersIn x y field

-- the heads differ first in this field; where one list has ended, the other has an entry more
abbrev pub HeadsDiffer : List Statement → List Statement → Field → Type 0
HeadsDiffer [] [] field = ⊥
HeadsDiffer [] (y ∷ ys) field = field ≡ Presence
HeadsDiffer (x ∷ xs) [] field = field ≡ Presence
HeadsDiffer (x ∷ xs) (y ∷ ys) field = DiffersIn x y field

-- the same load: equal statements, so many of them; or another: the first so many agree, and the next differ
abbrev pub Judges : List Statement → List Statement → Comparison → Type 0
Judges xs ys (Same n) = (xs ≡ ys) × (length xs ≡ n)
Judges xs ys (Different n field) = (xs ≢ ys) × (take n xs ≡ take n ys) × HeadsDiffer (drop n xs) (drop n ys) field

-- the statements of a packet's entries, where it is not refused
abbrev pub listed : Services → Entries → List Statement
listed services (Ok es) = map (stated services) es
listed services (Err refusal) = []

abbrev pub statements : Services → List ℕ → List Statement
statements services packet = listed services (entries services None packet)

-- what `compare_packets` answers: the first packet's refusal, the second's, or how their statements compare
abbrev pub Compared : Services → List ℕ → List ℕ → Result Comparison RefusedPacket → Type 0
Compared services first second (Err (First refusal)) = entries services None first ≡ Err refusal
Compared services first second (Err (Second refusal)) = (is_ok (entries services None first) ≡ true) × (entries services None second ≡ Err refusal)
Compared services first second (Ok comparison) =
    (is_ok (entries services None first) ≡ true)
    × (is_ok (entries services None second) ≡ true)
    × Judges (statements services first) (statements services second) comparison
