-- What an output holds before, at and after a write, and at a packet that it begins with. Assumes nothing.
use Rattle.std.proofs.Common.{◌≡◌, ℕ, ◌+◌, ◌-◌, ◌≤◌, List, ◌++◌, length, take, drop, sym, refl, ap, ◌∙◌, arith}
use Rattle.std.proofs.lemmas.List.{append_assoc, length-append, length-drop, length-take-le, take_at, drop_at, drop-drop, drop-take, take-take, take-append-le}
use Rattle.std.proofs.Math.Seq.{take-append-add}
use Rattle.canonical.specs.States.{spliced}

module _ (out xs : List ℕ) (p : ℕ) (fits : p + length xs ≤ length out) where
  pub length-spliced : length (spliced out p xs) ≡ length out
  length-spliced =
      let a = length-append (take p out) (xs ++ drop (p + length xs) out) in
      let b = length-append xs (drop (p + length xs) out) in
      let c = length-take-le p out (omega arith) in
      let d = length-drop (p + length xs) out in
      omega arith

  pub take-before : (q : ℕ) → q ≤ p → take q (spliced out p xs) ≡ take q out
  take-before q h =
      let l : length (take p out) ≡ p = length-take-le p out (omega arith) in
      take-append-le q (take p out) (xs ++ drop (p + length xs) out) (omega arith) ∙ take-take q p out h

  -- what was written
  pub read_spliced : take (length xs) (drop p (spliced out p xs)) ≡ xs
  read_spliced =
      ap (take (length xs)) (drop_at (take p out) (xs ++ drop (p + length xs) out) p (length-take-le p out (omega arith)))
      ∙ take_at xs (drop (p + length xs) out) (length xs) refl

  front_long : length (take p out ++ xs) ≡ p + length xs
  front_long = length-append (take p out) xs ∙ ap (λ k. k + length xs) (length-take-le p out (omega arith))

  -- up to the end of the write, and u bytes further
  pub take-spliced : take (p + length xs) (spliced out p xs) ≡ take p out ++ xs
  take-spliced =
      ap (take (p + length xs)) (sym (append_assoc (take p out) xs (drop (p + length xs) out)))
      ∙ take_at (take p out ++ xs) (drop (p + length xs) out) (p + length xs) front_long

  pub take_past : (u : ℕ) → take ((p + length xs) + u) (spliced out p xs) ≡ take p out ++ (xs ++ take u (drop (p + length xs) out))
  take_past u =
      let a : List ℕ = take p out ++ xs in
      let d : List ℕ = drop (p + length xs) out in
      ap (take ((p + length xs) + u)) (sym (append_assoc (take p out) xs d))
      ∙ ap (λ k. take (k + u) (a ++ d)) (sym front_long)
      ∙ take-append-add a d u
      ∙ append_assoc (take p out) xs (take u d)

-- a word at p, and after u bytes more x
pub take_two : (out w x : List ℕ) (p u : ℕ) → length w ≡ 4 → p + 4 + u + length x ≤ length out
    → take (p + 4 + u + length x) (spliced (spliced out p w) (p + 4 + u) x) ≡ take p out ++ (w ++ (take u (drop (p + 4) out) ++ x))
take_two out w x p u lw h =
    let mid : List ℕ = spliced out p w in
    let l : length mid ≡ length out = length-spliced out w p (omega arith) in
    let q : List ℕ = take u (drop (p + 4) out) in
    let j : (p + length w) + u ≡ p + 4 + u = omega arith in
    let v : take (p + 4 + u) mid ≡ take p out ++ (w ++ q) =
    ap (λ i. take i mid) (sym j) ∙ take_past out w p (omega arith) u ∙ ap (λ n. take p out ++ (w ++ take u (drop (p + n) out))) lw in
    take-spliced mid x (p + 4 + u) (omega arith) ∙ ap (λ r. r ++ x) v ∙ append_assoc (take p out) (w ++ q) x ∙ ap (λ r. take p out ++ r) (append_assoc w q x)

pub length_two : (out w x : List ℕ) (p u : ℕ) → length w ≡ 4 → p + 4 + u + length x ≤ length out
    → length (spliced (spliced out p w) (p + 4 + u) x) ≡ length out
length_two out w x p u lw h =
    let l : length (spliced out p w) ≡ length out = length-spliced out w p (omega arith) in
    length-spliced (spliced out p w) x (p + 4 + u) (omega arith) ∙ l

-- in an output that begins with a, a word w, c and z
module _ (out a w c z : List ℕ) (l b n : ℕ) (begins : take l out ≡ a ++ (w ++ (c ++ z))) (la : length a ≡ b) (lw : length w ≡ 4) (lc : length c ≡ n) (far : b + 4 + n ≤ l) where
  pub before-word : take b out ≡ a
  before-word = sym (take-take b l out (omega arith)) ∙ ap (take b) begins ∙ take_at a (w ++ (c ++ z)) b la

  pub after_word : take n (drop (b + 4) out) ≡ c
  after_word =
      let m : ℕ = l - (b + 4) in
      let k : (b + 4) + m ≡ l = omega arith in
      sym (take-take n m (drop (b + 4) out) (omega arith))
      ∙ ap (take n) (sym (drop-take (b + 4) m out) ∙ ap (λ i. drop (b + 4) (take i out)) k ∙ ap (drop (b + 4)) begins
      ∙ sym (drop-drop 4 b (a ++ (w ++ (c ++ z)))) ∙ ap (drop 4) (drop_at a (w ++ (c ++ z)) b la) ∙ drop_at w (c ++ z) 4 lw)
      ∙ take_at c z n lc
