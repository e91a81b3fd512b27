-- Writes into the middle of an output. Assumes nothing.
use Rattle.std.proofs.Common.{◌≡◌, ℕ, ◌+◌, ◌-◌, ◌≤◌, List, ◌++◌, length, take, drop, sym, ap, ◌∙◌, append_assoc, arith}
use borrow.Rule.Slice.PartMut.{put_mid}
use Rattle.std.proofs.lemmas.List.{length-append, length-take-le, take_at, take-take, take-append-le, drop_at, drop-drop}
use Rattle.canonical.specs.States.{spliced}

-- what a write to `out[a..a + n]` leaves
pub put_is : (a n : ℕ) (out ys : List ℕ) → length ys ≡ n → put_mid a (a + n - a) out ys ≡ spliced out a ys
put_is a n out ys h = let k : a + n - a ≡ length ys = omega arith in rw (k, drop-drop)

module _ (out xs : List ℕ) (p : ℕ) (room : p + length xs ≤ length out) where
  long : length (take p out ++ xs) ≡ p + length xs
  long = length-append (take p out) xs ∙ ap (λ k. k + length xs) (length-take-le p out (omega arith))

  grouped : spliced out p xs ≡ (take p out ++ xs) ++ drop (p + length xs) out
  grouped = sym (append_assoc (take p out) xs (drop (p + length xs) out))

  -- a write just after another
  pub splice_after : (ys : List ℕ) (q : ℕ) → q ≡ p + length xs → spliced (spliced out p xs) q ys ≡ spliced out p (xs ++ ys)
  splice_after ys q e =
      let n : q + length ys ≡ p + length (xs ++ ys) = let a = length-append xs ys in omega arith in
      let front : take q (spliced out p xs) ≡ take p out ++ xs = ap (take q) grouped ∙ take_at (take p out ++ xs) (drop (p + length xs) out) q (long ∙ sym e) in
      let rest : drop q (spliced out p xs) ≡ drop q out = ap (drop q) grouped ∙ drop_at (take p out ++ xs) (drop (p + length xs) out) q (long ∙ sym e) ∙ ap (λ k. drop k out) (sym e) in
      let last : drop (q + length ys) (spliced out p xs) ≡ drop (p + length (xs ++ ys)) out =
      sym (drop-drop (length ys) q (spliced out p xs)) ∙ ap (drop (length ys)) rest ∙ drop-drop (length ys) q out ∙ ap (λ k. drop k out) n in
      ap (λ t. take q (spliced out p xs) ++ (ys ++ t)) last
      ∙ ap (λ t. t ++ (ys ++ drop (p + length (xs ++ ys)) out)) front
      ∙ append_assoc (take p out) xs (ys ++ drop (p + length (xs ++ ys)) out)
      ∙ ap (λ t. take p out ++ t) (sym (append_assoc xs ys (drop (p + length (xs ++ ys)) out)))

-- a write just before another
pub splice_before : (out xs ys : List ℕ) (p q : ℕ) → p + length xs + length ys ≤ length out → q ≡ p + length xs → spliced (spliced out q ys) p xs ≡ spliced out p (xs ++ ys)
splice_before out xs ys p q room e =
    let n : q + length ys ≡ p + length (xs ++ ys) = let a = length-append xs ys in omega arith in
    let l : length (take q out) ≡ q = length-take-le q out (omega arith) in
    let front : take p (spliced out q ys) ≡ take p out = take-append-le p (take q out) (ys ++ drop (q + length ys) out) (omega arith) ∙ take-take p q out (omega arith) in
    let rest : drop (p + length xs) (spliced out q ys) ≡ ys ++ drop (q + length ys) out = drop_at (take q out) (ys ++ drop (q + length ys) out) (p + length xs) (l ∙ e) in
    ap (λ t. t ++ (xs ++ drop (p + length xs) (spliced out q ys))) front
    ∙ ap (λ t. take p out ++ (xs ++ t)) (rest ∙ ap (λ k. ys ++ drop k out) n)
    ∙ ap (λ t. take p out ++ t) (sym (append_assoc xs ys (drop (p + length (xs ++ ys)) out)))
