-- Rows in the order of their keys.
use Rattle.std.specs.Prelude.{ℕ, ◌<◌, ◌≤◌, List, take, drop}
use Rattle.std.specs.List.{All, AllPairs}

-- no row's key is above that of a later row
abbrev pub InOrder : {R : Type 0} → (R → ℕ) → List R → Type 0
InOrder key rows = AllPairs (λ a b. key a ≤ key b) rows

-- each row's key is below those of the later rows
abbrev pub Ascending : {R : Type 0} → (R → ℕ) → List R → Type 0
Ascending key rows = AllPairs (λ a b. key a < key b) rows

-- the place is the first whose key is not below this one
pub record IsFirstFrom {R : Type 0} (key : R → ℕ) (rows : List R) (k place : ℕ) : Type 0 where
  pub before : All (λ r. key r < k) (take place rows)
  pub from_there : All (λ r. k ≤ key r) (drop place rows)
