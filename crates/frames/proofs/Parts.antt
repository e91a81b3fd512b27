-- A list that is written from left to right, piece by piece. Assumes nothing.
use Rattle.std.proofs.Common.{◌≡◌, ℕ, ◌+◌, ◌-◌, ◌<◌, ◌≤◌, List, [], ◌∷◌, ◌++◌, length, take, drop, set, ap, ◌∙◌, append_assoc, append-nil, arith}
use borrow.Rule.Slice.PartMut.{put_mid, post_of}
use Rattle.std.proofs.lemmas.List.{take_more_set, take_at, drop_all, length-drop, length-append, length-set, length-take-le}
use Rattle.std.proofs.lemmas.Slice.{take-put_mid}

module _ {X : Type 0} (xs done : List X) (a : ℕ) (so_far : take a xs ≡ done) where
  -- after `s[a] = x`
  set_next : (x : X) → a < length xs → take (a + 1) (set xs a x) ≡ done ++ (x ∷ [])
  set_next x h = take_more_set xs a x h ∙ ap (λ t. t ++ (x ∷ [])) so_far

  -- after a write to `s[a..a + k]`
  put_next : (k : ℕ) (ys : List X) (n : ℕ) → n ≡ a + length ys → a ≤ length xs → take n (put_mid a k xs ys) ≡ done ++ ys
  put_next k ys n e h = take-put_mid a k xs ys n e h ∙ ap (λ t. t ++ ys) so_far

  -- after a write to `s[a..]`
  put_last : (ys : List X) → put_mid a (length xs - a) xs ys ≡ done ++ ys
  put_last ys =
      let gone : drop (length xs - a) (drop a xs) ≡ [] = drop_all (length xs - a) (drop a xs) (omega (arith, length-drop a xs)) in
      ap (λ t. t ++ (ys ++ drop (length xs - a) (drop a xs))) so_far ∙ ap (λ t. done ++ (ys ++ t)) gone ∙ ap (λ t. done ++ t) (append-nil ys)

length-put_mid : {X : Type 0} (a k : ℕ) (xs ys : List X) → a + k ≤ length xs → length ys ≡ k → length (put_mid a k xs ys) ≡ length xs
length-put_mid a k xs ys h e =
    omega (arith, length-append (take a xs) (ys ++ drop k (drop a xs)), length-append ys (drop k (drop a xs)), length-take-le a xs (omega arith), length-drop k (drop a xs), length-drop a xs)

-- the length of `s[e..]`
length_rest : {X : Type 0} (xs : List X) (e : ℕ) → length (take (length xs - e) (drop e xs)) ≡ length xs - e
length_rest xs e = length-take-le (length xs - e) (drop e xs) (omega (arith, length-drop e xs))

-- after a write to `s[0..a]`, `s[a] = x`, a write to `s[a + 1..e]` and one to `s[e..]`; z is `a - 0`, which does not compute at a variable
module _ {X : Type 0} (p front body : List X) (x : X) (a e z : ℕ) (ez : z ≡ a) (ea : length front ≡ a) (ee : e ≡ a + 1 + length body) where
  abbrev pub three : List X
  three = put_mid (a + 1) (e - (a + 1)) (set (front ++ post_of 0 z p) a x) body

  pub put_four : (tail : List X) → a < length p → put_mid e (length three - e) three tail ≡ front ++ (x ∷ (body ++ tail))
  put_four tail h =
      let p₁ = front ++ post_of 0 z p in
      let l : a < length p₁ = omega (arith, length-append front (post_of 0 z p), length-drop z p) in
      let l₂ : a + 1 ≤ length (set p₁ a x) = omega (arith, l, length-set p₁ a x) in
      let t₁ = take_at front (post_of 0 z p) a ea in
      let t₂ = set_next p₁ front a t₁ x l in
      let t₃ = put_next (set p₁ a x) (front ++ (x ∷ [])) (a + 1) t₂ (e - (a + 1)) body e ee l₂ in
      put_last (put_mid (a + 1) (e - (a + 1)) (set p₁ a x) body) ((front ++ (x ∷ [])) ++ body) e t₃ tail
      ∙ append_assoc (front ++ (x ∷ [])) body tail ∙ append_assoc front (x ∷ []) (body ++ tail)

  -- and the room for the last of them
  pub room_four : (n : ℕ) → length p ≡ e + n → length (take (length three - e) (drop e three)) ≡ n
  room_four n h =
      let p₁ = front ++ post_of 0 z p in
      let l : length (set p₁ a x) ≡ length p = omega (arith, length-set p₁ a x, length-append front (post_of 0 z p), length-drop z p) in
      let l₂ = length-put_mid (a + 1) (e - (a + 1)) (set p₁ a x) body (omega arith) (omega arith) in
      length_rest (put_mid (a + 1) (e - (a + 1)) (set p₁ a x) body) e ∙ omega arith
