-- A row written over the first free one, and then turned to its place.
use Rattle.std.proofs.Common.{◌≡◌, ℕ, ◌+◌, ◌-◌, ◌≤◌, ◌<◌, List, [], ◌∷◌, ◌++◌, length, take, drop, insert, slice_set, sym, ◌∙◌, ap, arith, append_assoc, length-append, length-drop}
use Rattle.std.proofs.lemmas.List.{take_at, drop_at, take-append-le, drop-append-le, length-take-le, set_split}
use Rattle.std.proofs.Math.Numerals.{add-one}
use borrow.Rule.Slice.PartMut.{put_mid}

module _ {X : Type 0} (taken free : List X) (x : X) (at count : ℕ) (within : at ≤ length taken) (counted : count ≡ length taken + 1 - at) where
  behind_written : drop at (taken ++ x ∷ free) ≡ drop at taken ++ (x ∷ []) ++ free
  behind_written = drop-append-le at taken (x ∷ free) within ∙ sym (append_assoc (drop at taken) (x ∷ []) free)

  as_many : length (drop at taken ++ x ∷ []) ≡ count
  as_many = omega (arith, length-append (drop at taken) (x ∷ []), length-drop at taken, counted, within)

  pub turned : (part ys : List X) → part ≡ take count (drop at (taken ++ x ∷ free))
      → ys ≡ drop (length part - 1) part ++ take (length part - 1) part
      → put_mid at count (taken ++ x ∷ free) ys ≡ insert taken at x ++ free
  turned part ys e f =
      let part_is : part ≡ drop at taken ++ x ∷ [] = e ∙ ap (take count) behind_written ∙ take_at (drop at taken ++ x ∷ []) free count as_many in
      let but_one : length (drop at taken) ≡ length part - 1 = omega (arith, ap length part_is, length-append (drop at taken) (x ∷ [])) in
      let ys_is : ys ≡ x ∷ drop at taken = f ∙ ap (λ p. drop (length part - 1) p ++ take (length part - 1) p) part_is ∙ rw (drop_at (drop at taken) (x ∷ []) (length part - 1) but_one, take_at (drop at taken) (x ∷ []) (length part - 1) but_one) in
      let rest : drop count (drop at (taken ++ x ∷ free)) ≡ free = ap (drop count) behind_written ∙ drop_at (drop at taken ++ x ∷ []) free count as_many in
      rw (take-append-le at taken (x ∷ free) within, ys_is, rest, append_assoc (take at taken) (x ∷ drop at taken) free)

pub opened : {X : Type 0} (rows : List X) (taken at count : ℕ) (x : X) (part ys : List X) → at ≤ taken → taken < length rows → count ≡ taken + 1 - at
    → part ≡ take count (drop at (slice_set rows taken x))
    → ys ≡ drop (length part - 1) part ++ take (length part - 1) part
    → put_mid at count (slice_set rows taken x) ys ≡ insert (take taken rows) at x ++ drop (taken + 1) rows
opened rows taken at count x part ys le room counted e f =
    let long : length (take taken rows) ≡ taken = length-take-le taken rows (omega arith) in
    let written : slice_set rows taken x ≡ take taken rows ++ x ∷ drop (taken + 1) rows = set_split rows taken x room ∙ ap (λ n. take taken rows ++ x ∷ drop n rows) (sym (add-one taken)) in
    ap (λ l. put_mid at count l ys) written ∙ turned (take taken rows) (drop (taken + 1) rows) x at count (omega arith) (omega arith) part ys (e ∙ ap (λ l. take count (drop at l)) written) f
