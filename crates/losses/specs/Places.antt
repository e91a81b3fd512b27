-- Where the row of a key stands, or would stand.
use Rattle.std.specs.Prelude.{◌≡◌, ℕ, ◌+◌, ◌<◌, ◌≤◌, List, length, take, drop, None, Ok, Err, Result}
use Rattle.std.specs.List.{slice_get}
use Rattle.losses.specs.Order.{Ascending}
use Rattle.losses.specs.Rows.{below, row_with, above}

-- at the place stands the key's row, between those of lesser keys and those of greater ones
pub record IsRowAt {R : Type 0} (key : R → ℕ) (rows : List R) (k place : ℕ) : Type 0 where
  pub found : row_with key k rows ≡ slice_get rows place
  pub before : below key k rows ≡ take place rows
  pub after : above key k rows ≡ drop (place + 1) rows

-- the key has no row; the rows of lesser keys end at the place
pub record IsGapAt {R : Type 0} (key : R → ℕ) (rows : List R) (k place : ℕ) : Type 0 where
  pub none : row_with key k rows ≡ None
  pub before : below key k rows ≡ take place rows
  pub after : above key k rows ≡ drop place rows

abbrev pub PlaceOf : {R : Type 0} → (R → ℕ) → List R → ℕ → Result ℕ ℕ → Type 0
PlaceOf key rows k (Ok place) = (place < length rows) × (Ascending key rows → IsRowAt key rows k place)
PlaceOf key rows k (Err place) = (place ≤ length rows) × (Ascending key rows → IsGapAt key rows k place)
