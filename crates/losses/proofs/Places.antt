-- What a place in key order says of the rows before and after it.
use Rattle.std.specs.Prelude.{zero, suc, nat_lt, ◌==◌, ◌⊎◌}
use Rattle.std.proofs.Common.{◌≡◌, ◌≢◌, ℕ, ◌+◌, ◌<◌, ◌≤◌, List, [], ◌∷◌, ◌++◌, length, get_or, take, drop, Some, None, refl, sym, ◌∙◌, ap, inl, inr, add-zero, arith, append-nil, length-drop, get_or-drop}
use Rattle.std.specs.List.{All}
use Rattle.std.proofs.lemmas.Bool.Decides.{nat_tests}
use Rattle.std.proofs.lemmas.List.{take-append-drop, drop_more, get_or_default}
use Rattle.std.proofs.lemmas.List.Elements.{All-head, All-tail, filter-append}
use Rattle.std.proofs.lemmas.List.Folds.{find-append}
use Rattle.std.proofs.lemmas.Option.{slice_get_read}
use Rattle.losses.specs.Order.{InOrder, Ascending, IsFirstFrom}
use Rattle.losses.specs.Rows.{below, row_with, above}
use Rattle.losses.specs.Places.{IsRowAt, IsGapAt}

eq_or_lt : (n : ℕ) → (n ≡ 0) ⊎ (0 < n)
eq_or_lt zero = inl refl
eq_or_lt (suc n) = inr (omega arith)

module _ {R : Type 0} (key : R → ℕ) (k : ℕ) where
  below-lesser : (rows : List R) → All (λ r. key r < k) rows → below key k rows ≡ rows
  below-lesser [] h = refl
  below-lesser (r ∷ rows) h = grind (arith, nat_tests, below-lesser rows (All-tail (λ s. key s < k) r rows h), All-head (λ s. key s < k) r rows h)

  above-lesser : (rows : List R) → All (λ r. key r < k) rows → above key k rows ≡ []
  above-lesser [] h = refl
  above-lesser (r ∷ rows) h = grind (arith, nat_tests, above-lesser rows (All-tail (λ s. key s < k) r rows h), All-head (λ s. key s < k) r rows h)

  row_with-lesser : (rows : List R) → All (λ r. key r < k) rows → row_with key k rows ≡ None
  row_with-lesser [] h = refl
  row_with-lesser (r ∷ rows) h = grind (arith, nat_tests, row_with-lesser rows (All-tail (λ s. key s < k) r rows h), All-head (λ s. key s < k) r rows h)

  below-greater : (rows : List R) → All (λ r. k < key r) rows → below key k rows ≡ []
  below-greater [] h = refl
  below-greater (r ∷ rows) h = grind (arith, nat_tests, below-greater rows (All-tail (λ s. k < key s) r rows h), All-head (λ s. k < key s) r rows h)

  above-greater : (rows : List R) → All (λ r. k < key r) rows → above key k rows ≡ rows
  above-greater [] h = refl
  above-greater (r ∷ rows) h = grind (arith, nat_tests, above-greater rows (All-tail (λ s. k < key s) r rows h), All-head (λ s. k < key s) r rows h)

  row_with-greater : (rows : List R) → All (λ r. k < key r) rows → row_with key k rows ≡ None
  row_with-greater [] h = refl
  row_with-greater (r ∷ rows) h = grind (arith, nat_tests, row_with-greater rows (All-tail (λ s. k < key s) r rows h), All-head (λ s. k < key s) r rows h)

  module _ (lesser greater : List R) (before : All (λ r. key r < k) lesser) (after : All (λ r. k < key r) greater) where
    below-gap : below key k (lesser ++ greater) ≡ lesser
    below-gap = filter-append (λ r. nat_lt (key r) k) lesser greater ∙ rw (below-lesser lesser before, below-greater greater after, append-nil lesser)

    above-gap : above key k (lesser ++ greater) ≡ greater
    above-gap = filter-append (λ r. nat_lt k (key r)) lesser greater ∙ rw (above-lesser lesser before, above-greater greater after)

    row_with-gap : row_with key k (lesser ++ greater) ≡ None
    row_with-gap = find-append (λ r. key r == k) lesser greater ∙ rw (row_with-lesser lesser before, row_with-greater greater after)

    module _ (row : R) (same : key row ≡ k) where
      below-row : below key k (lesser ++ row ∷ greater) ≡ lesser
      below-row =
          let rest : below key k (row ∷ greater) ≡ below key k greater = grind (arith, nat_tests, same) in
          filter-append (λ r. nat_lt (key r) k) lesser (row ∷ greater) ∙ rw (below-lesser lesser before, rest, below-greater greater after, append-nil lesser)

      above-row : above key k (lesser ++ row ∷ greater) ≡ greater
      above-row =
          let rest : above key k (row ∷ greater) ≡ above key k greater = grind (arith, nat_tests, same) in
          filter-append (λ r. nat_lt k (key r)) lesser (row ∷ greater) ∙ rw (above-lesser lesser before, rest, above-greater greater after)

      row_with-row : row_with key k (lesser ++ row ∷ greater) ≡ Some row
      row_with-row =
          let rest : row_with key k (row ∷ greater) ≡ Some row = grind (arith, nat_tests, same) in
          find-append (λ r. key r == k) lesser (row ∷ greater) ∙ rw (row_with-lesser lesser before, rest)

  module _ (rows : List R) (place : ℕ) (sorted : Ascending key rows) (first : IsFirstFrom key rows k place) where
    greater_after : (row : R) → place < length rows → row ≡ get_or rows place row → key row ≡ k → All (λ r. k < key r) (drop (place + 1) rows)
    greater_after row within read same j d h =
        let in_rows : place + 1 + j < length rows = omega (arith, h, length-drop (place + 1) rows) in
        let rises : key (get_or rows place d) < key (get_or rows (place + 1 + j) d) = sorted place (place + 1 + j) d (omega arith) in_rows in
        omega (arith, rises, same, ap key (get_or_default rows place d row within ∙ sym read), ap key (get_or-drop (place + 1) rows j d))

    greater_from : ((d : R) → place < length rows → key (get_or rows place d) ≢ k) → All (λ r. k < key r) (drop place rows)
    greater_from other j d h =
        let in_rows : place + j < length rows = omega (arith, h, length-drop place rows) in
        let at : ℕ → ℕ = λ i. key (get_or rows i d) in
        let first_not_below : k ≤ at place = omega (arith, first.from_there 0 d (omega (arith, in_rows, length-drop place rows)), ap key (get_or-drop place rows 0 d), ap at (add-zero place)) in
        let first_above : k < at place = omega (arith, first_not_below, other d (omega (arith, in_rows))) in
        let here : k < at (place + j) = elim (eq_or_lt j) [ inl z ↦ omega (arith, first_above, ap at (ap (λ i. place + i) z ∙ add-zero place)) | inr p ↦ omega (arith, first_above, sorted place (place + j) d (omega arith) in_rows) ] in
        omega (arith, here, ap key (get_or-drop place rows j d))

    pub row_at : (row : R) → place < length rows → row ≡ get_or rows place row → key row ≡ k → IsRowAt key rows k place
    row_at row within read same =
        let after = greater_after row within read same in
        let split : rows ≡ take place rows ++ row ∷ drop (place + 1) rows =
        sym (take-append-drop place rows) ∙ ap (λ l. take place rows ++ l) (drop_more rows place row within ∙ ap (λ r. r ∷ drop (place + 1) rows) (sym read)) in
        record {
          found = ap (row_with key k) split ∙ row_with-row (take place rows) (drop (place + 1) rows) first.before after row same ∙ sym (slice_get_read rows (length rows) place row refl within read);
          before = ap (below key k) split ∙ below-row (take place rows) (drop (place + 1) rows) first.before after row same;
          after = ap (above key k) split ∙ above-row (take place rows) (drop (place + 1) rows) first.before after row same;
        }

    pub gap_at : ((d : R) → place < length rows → key (get_or rows place d) ≢ k) → IsGapAt key rows k place
    gap_at other =
        let after = greater_from other in
        let split : rows ≡ take place rows ++ drop place rows = sym (take-append-drop place rows) in
        record {
          none = ap (row_with key k) split ∙ row_with-gap (take place rows) (drop place rows) first.before after;
          before = ap (below key k) split ∙ below-gap (take place rows) (drop place rows) first.before after;
          after = ap (above key k) split ∙ above-gap (take place rows) (drop place rows) first.before after;
        }

-- rows in strict order are in order
pub ascending_in_order : {R : Type 0} (key : R → ℕ) (rows : List R) → Ascending key rows → InOrder key rows
ascending_in_order key rows sorted i j d lt within = omega (arith, sorted i j d lt within)
