-- What follows from a row of tests. Assumes nothing.
use Rattle.std.proofs.Common.{◌≡◌, Bool, true, false, List, [], ◌∷◌, Ok, Err, Result, refl, ap}
use Rattle.records.specs.Tests.{tested, Passed}

-- a row that lets one value through lets any answer through
pub tested_ok : {A B E : Type 0} (ts : List (Bool × E)) (x y : A) (r : Result B E) → Ok x ≡ tested ts (Ok y) → (tested ts r ≡ r) × (x ≡ y)
tested_ok [] x y r e = (refl, cc)
tested_ok ((true, n) ∷ ts) x y r e = tested_ok ts x y r e
tested_ok ((false, n) ∷ ts) x y r e = cc

-- and one that refuses a value refuses any answer, in the same way
pub tested_err : {A B E : Type 0} (ts : List (Bool × E)) (w : E) (y : A) (r : Result B E) → Err w ≡ tested ts (Ok y) → Err w ≡ tested ts r
tested_err [] w y r e = cc
tested_err ((true, n) ∷ ts) w y r e = tested_err ts w y r e
tested_err ((false, n) ∷ ts) w y r e = let z : w ≡ n = cc in ap Err z

pub passed : {A E : Type 0} (ts : List (Bool × E)) (r : Result A E) (x : A) → tested ts r ≡ Ok x → Passed ts × (r ≡ Ok x)
passed [] r x e = (tt, e)
passed ((true, n) ∷ ts) r x e = let p = passed ts r x e in ((refl, p.0), p.1)
passed ((false, n) ∷ ts) r x e = cc

pub tested_passed : {A E : Type 0} (ts : List (Bool × E)) (r : Result A E) → Passed ts → tested ts r ≡ r
tested_passed [] r p = refl
tested_passed ((true, n) ∷ ts) r p = tested_passed ts r p.1
tested_passed ((false, n) ∷ ts) r p = let q = p.0 in cc
