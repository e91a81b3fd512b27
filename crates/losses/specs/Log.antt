-- What was noted on a table, in order, and the law of its rows.
use Rattle.std.specs.Prelude.{◌≡◌, ℕ, List, [], ◌∷◌, ◌++◌, filter, ◌==◌, Some, None, Ok, Err, Option, Result}
use Rattle.losses.specs.declared.refusal.TableRefusal.{TableRefusal}
use Rattle.losses.specs.Order.{Ascending}
use Rattle.losses.specs.Rows.{Rows, row_with, key_noted, Notes}

-- a noting that is done is accepted, a refused one is not
abbrev pub accepted_if : {N : Type 0} → Result (Unit {0}) TableRefusal → N → List N
accepted_if (Ok done) n = n ∷ []
accepted_if (Err refusal) n = []

-- a table's rows after the notings, and those accepted: it began with no row taken, and each step is what `note` promises
pub data Log {R N : Type 0} (key : R → ℕ) (row : N → List N → R) (next : R → N → R) : Rows R → List N → Type 0 where
  begun : {rows : Rows R} {ns : List N} → rows.taken ≡ [] → ns ≡ [] → Log key row next rows ns
  note : {rows rows' : Rows R} {ns ns' : List N} → Log key row next rows ns
      → (n : N) (r : Result (Unit {0}) TableRefusal) → (Ascending key rows.taken → Notes key row next rows n r rows')
      → ns' ≡ ns ++ accepted_if r n → Log key row next rows' ns'

-- the row of these notings, the first of which begins it
abbrev pub row_by : {R N : Type 0} → (N → List N → R) → List N → Option R
row_by row [] = None
row_by row (n ∷ ns) = Some (row n ns)

module _ {R N : Type 0} (key : R → ℕ) (row : N → List N → R) where
  abbrev pub noted_under : ℕ → List N → List N
  noted_under k ns = filter (λ n. key_noted key row n == k) ns

  -- the row of a key, told by what was noted under it alone; none where nothing was
  abbrev pub row_told : ℕ → List N → Option R
  row_told k ns = row_by row (noted_under k ns)

  -- of the rows taken, after these notings were accepted
  pub record Law (taken : List R) (ns : List N) : Type 0 where
    pub ascending : Ascending key taken
    pub each : (k : ℕ) → row_with key k taken ≡ row_told k ns

-- whatever was noted
abbrev pub AnyLog : {R N : Type 0} → (R → ℕ) → (N → List N → R) → (R → N → R) → Rows R → Type 0
AnyLog {R} {N} key row next rows = (ns : List N) → Log key row next rows ns → Law key row rows.taken ns
