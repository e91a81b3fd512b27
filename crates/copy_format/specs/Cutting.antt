-- Cutting a list into runs, each as long as a test allows.
use Rattle.std.specs.Prelude.{◌≡◌, Bool, true, cond, List, [], ◌∷◌, ◌++◌}

abbrev pub flat : {A : Type 0} → List (List A) → List A
flat [] = []
flat (p ∷ ps) = p ++ flat ps

abbrev pub NonEmpty : {A : Type 0} → List A → Type 0
NonEmpty [] = ⊥
NonEmpty (x ∷ xs) = Unit {0}

module _ {A : Type 0} (allowed : List A → Bool) where
  -- a run that may stand
  abbrev pub Passes : List A → Type 0
  Passes p = NonEmpty p × (allowed p ≡ true)

  -- what is left, after a run has begun with p
  abbrev pub cut_on : List A → List A → List (List A)
  cut_on p [] = p ∷ []
  cut_on p (x ∷ xs) = cond (allowed (p ++ (x ∷ []))) (cut_on (p ++ (x ∷ [])) xs) (p ∷ cut_on (x ∷ []) xs)

  abbrev pub cut : List A → List (List A)
  cut [] = []
  cut (x ∷ xs) = cut_on (x ∷ []) xs
