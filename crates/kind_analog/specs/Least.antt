-- What the canonical factor is, in words of the subject.
use Rattle.std.specs.Prelude.{◌≡◌, ℕ, ◌<◌, true, false, List, ℤ}
use Rattle.kind_analog.specs.Analog.{all_multiples, step, least_factor}

abbrev pub Serves : Type 0
Serves = (vs : List ℤ) → all_multiples (step (least_factor vs)) vs ≡ true

abbrev pub NoLesser : Type 0
NoLesser = (vs : List ℤ) (g : ℕ) → g < least_factor vs → all_multiples (step g) vs ≡ false

-- the canonical factor serves every value, and no lesser one does
abbrev pub Least : Type 0
Least = (vs : List ℤ) → (all_multiples (step (least_factor vs)) vs ≡ true) × ((g : ℕ) → g < least_factor vs → all_multiples (step g) vs ≡ false)
