-- The rows of a table: what noting does to them, and which row a key has.
use Rattle.std.specs.Prelude.{◌≡◌, ℕ, List, [], ◌∷◌, ◌++◌, take, drop, filter, find, nat_lt, ◌==◌, Some, None, Ok, Err, Option, Result}
use Rattle.losses.specs.Order.{Ascending}
use Rattle.losses.specs.declared.refusal.TableRefusal.{TableRefusal}
use Rattle.losses.specs.declared.refusal.TableRefusal.TheVariants.{NoRowLeft}

-- the rows of lesser keys, the row of the key, and the rows of greater keys
module _ {R : Type 0} (key : R → ℕ) (k : ℕ) where
  abbrev pub below : List R → List R
  below rows = filter (λ r. nat_lt (key r) k) rows

  abbrev pub row_with : List R → Option R
  row_with rows = find (λ r. key r == k) rows

  abbrev pub above : List R → List R
  above rows = filter (λ r. nat_lt k (key r)) rows

-- the rows taken, and those still free
pub record Rows (R : Type 0) : Type 0 where
  pub taken : List R
  pub free : List R

-- a slice of rows, of which so many are taken
abbrev pub rows_in : {R : Type 0} → List R → ℕ → Rows R
rows_in rows n = record { taken = take n rows; free = drop n rows }

-- these rows taken after a noting: of the free ones none is used where the key had its row, else the first, if there is one
abbrev pub taking : {R : Type 0} → List R → Option R → List R → Result (Rows R) TableRefusal
taking rows (Some row) free = Ok (record { taken = rows; free = free })
taking rows None [] = Err NoRowLeft
taking rows None (f ∷ fs) = Ok (record { taken = rows; free = fs })

-- the key that something is noted under: that of the row that it begins
abbrev pub key_noted : {R N : Type 0} → (R → ℕ) → (N → List N → R) → N → ℕ
key_noted key row n = key (row n [])

-- the row of a first noting and later ones; what any row becomes by one more
module _ {R N : Type 0} (key : R → ℕ) (row : N → List N → R) (next : R → N → R) where
  -- the row of the key after the noting, where it had this row or none
  abbrev pub grown : Option R → N → R
  grown None n = row n []
  grown (Some r) n = next r n

  -- the rows taken after a noting, in key order
  abbrev pub noted : List R → N → List R
  noted rows n = below key (key_noted key row n) rows ++ grown (row_with key (key_noted key row n) rows) n ∷ above key (key_noted key row n) rows

  abbrev pub after_noting : Rows R → N → Result (Rows R) TableRefusal
  after_noting rows n = taking (noted rows.taken n) (row_with key (key_noted key row n) rows.taken) rows.free

  -- what a noting answers, and the rows after it: refused, they are as they were
  abbrev pub Notes : Rows R → N → Result (Unit {0}) TableRefusal → Rows R → Type 0
  Notes rows n (Ok done) rows' = after_noting rows n ≡ Ok rows'
  Notes rows n (Err refusal) rows' = (after_noting rows n ≡ Err refusal) × (rows' ≡ rows)

  -- the same in a slice of rows, of which so many are taken: what is answered is how many are taken then
  abbrev pub NotesIn : List R → ℕ → N → Result ℕ TableRefusal → List R → Type 0
  NotesIn rows taken n (Ok taken') rows' = Ascending key (take taken rows) → Notes (rows_in rows taken) n (Ok tt) (rows_in rows' taken')
  NotesIn rows taken n (Err refusal) rows' = (rows' ≡ rows) × (Ascending key (take taken rows) → Notes (rows_in rows taken) n (Err refusal) (rows_in rows' taken))

  -- a row goes on as the notings under its key tell, and keeps its key
  pub record GoesOn : Type 0 where
    pub same_key : (r : R) (n : N) → key (next r n) ≡ key r
    pub one_more : (n : N) (ns : List N) (m : N) → next (row n ns) m ≡ row n (ns ++ m ∷ [])
