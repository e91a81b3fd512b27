-- What the code of a frame comes to. Assumes nothing.
use Rattle.std.proofs.Common.{◌≡◌, ℕ, Bool, true, false, List, [], ◌∷◌, ◌++◌, length, Ok, Err, Result, sym, refl, ap, ◌∙◌}
use Rattle.records.specs.Codecs.{encoded}
use Rattle.records.specs.Tests.{tested, Passed}
use Rattle.records.specs.Verdicts.{checked}
use Rattle.records.specs.declared.refusal.RecordRefusal.{RecordRefusal}
use Rattle.records.proofs.Tested.{passed, tested_err, tested_passed}
use Rattle.frames.specs.Frames.{Shape, Shapely, count, framed_on, size_tests, frame_tests, tests_on, codec, verdict_on}
use Rattle.frames.specs.Law.{again_length}

tested-append : {A E : Type 0} (ts us : List (Bool × E)) (r : Result A E) → tested (ts ++ us) r ≡ tested ts (tested us r)
tested-append [] us r = refl
tested-append ((true, e) ∷ ts) us r = tested-append ts us r
tested-append ((false, e) ∷ ts) us r = refl

passed_append : {E : Type 0} (ts us : List (Bool × E)) → Passed ts → Passed us → Passed (ts ++ us)
passed_append [] us p q = q
passed_append (t ∷ ts) us p q = (p.0, passed_append ts us p.1 q)

-- what is answered of data of a right size
module _ (s : Shape) (ok : Shapely s) (g : ℕ) (d : List ℕ) (n : ℕ) (size : Ok n ≡ tested (size_tests s g d) (Ok (count s d))) where
  sizes : Passed (size_tests s g d)
  sizes = (passed (size_tests s g d) (Ok (count s d)) n (sym size)).0

  pub checks_passed : Ok tt ≡ tested {A = Unit {0}} (frame_tests s g d) (Ok tt) → Ok (length d) ≡ checked (verdict_on s g d)
  checks_passed e =
      let p = passed_append (size_tests s g d) (frame_tests s g d) sizes (passed (frame_tests s g d) (Ok tt) tt (sym e)).0 in
      sym (ap (λ r. checked (encoded (codec s) r)) (tested_passed (tests_on s g d) (Ok (framed_on s g d)) p) ∙ ap Ok (again_length s ok g d p))

  pub checks_refused : (w : RecordRefusal) → Err w ≡ tested {A = Unit {0}} (frame_tests s g d) (Ok tt) → Err w ≡ checked (verdict_on s g d)
  checks_refused w e =
      let r = Ok (framed_on s g d) in
      let whole : tested (tests_on s g d) r ≡ Err w = tested-append (size_tests s g d) (frame_tests s g d) r ∙ tested_passed (size_tests s g d) (tested (frame_tests s g d) r) sizes ∙ sym (tested_err (frame_tests s g d) w tt r e) in
      sym (ap (λ x. checked (encoded (codec s) x)) whole)
