-- Tests that are made in order, and what they let through.
use Rattle.std.specs.Prelude.{◌≡◌, Bool, true, cond, List, [], ◌∷◌, Ok, Err, Result}

-- the first test that fails gives its refusal; where none does, the answer stands
abbrev pub tested : {A E : Type 0} → List (Bool × E) → Result A E → Result A E
tested [] answer = answer
tested (t ∷ ts) answer = cond t.0 (tested ts answer) (Err t.1)

-- a refusal stays; what passes goes on
abbrev pub and_then : {A B E : Type 0} → Result A E → (A → Result B E) → Result B E
and_then (Ok x) next = next x
and_then (Err refusal) next = Err refusal

abbrev pub Passed : {E : Type 0} → List (Bool × E) → Type 0
Passed [] = Unit {0}
Passed (t ∷ ts) = (t.0 ≡ true) × Passed ts
