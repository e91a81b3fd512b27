-- The law of the rows, after any notings.
use Rattle.std.specs.Prelude.{zero, suc, nat_lt, ◌==◌, Err, Result}
use Rattle.std.proofs.Common.{◌≡◌, ◌≢◌, ℕ, ◌<◌, List, [], ◌∷◌, ◌++◌, Some, None, Ok, Option, refl, sym, ◌∙◌, ap, subst, inl, inr, arith, append-nil}
use Rattle.std.specs.List.{All}
use Rattle.std.specs.Option.{option_or}
use Rattle.std.proofs.lemmas.Bool.{cases_eq, cases_lt}
use Rattle.std.proofs.lemmas.Bool.Decides.{nat_tests}
use Rattle.std.proofs.lemmas.List.Elements.{All-nil, All-cons, All-same, All-append, All-head, All-tail, All-weaker, filter-append}
use Rattle.std.proofs.lemmas.List.Folds.{find-append}
use Rattle.std.proofs.lemmas.List.Kept.{AllPairs-filter, AllPairs-cons}
use Rattle.losses.specs.declared.refusal.TableRefusal.{TableRefusal}
use Rattle.losses.specs.Order.{Ascending}
use Rattle.losses.specs.Rows.{Rows, below, row_with, above, taking, key_noted, grown, noted, Notes, GoesOn}
use Rattle.losses.specs.Log.{accepted_if, Log, begun, note, row_by, noted_under, Law}

module _ {R : Type 0} (key : R → ℕ) (k : ℕ) where
  all-below : (rows : List R) → All (λ r. key r < k) (below key k rows)
  all-below [] = All-nil (λ r. key r < k)
  all-below (r ∷ rows) = elim (cases_lt (key r) k) [
    | inl lt ↦ All-same (λ s. key s < k) (below key k (r ∷ rows)) (r ∷ below key k rows) (grind (arith, nat_tests, lt)) (All-cons (λ s. key s < k) r (below key k rows) lt (all-below rows))
    | inr le ↦ All-same (λ s. key s < k) (below key k (r ∷ rows)) (below key k rows) (grind (arith, nat_tests, le)) (all-below rows)
  ]

  all-above : (rows : List R) → All (λ r. k < key r) (above key k rows)
  all-above [] = All-nil (λ r. k < key r)
  all-above (r ∷ rows) = elim (cases_lt k (key r)) [
    | inl lt ↦ All-same (λ s. k < key s) (above key k (r ∷ rows)) (r ∷ above key k rows) (grind (arith, nat_tests, lt)) (All-cons (λ s. k < key s) r (above key k rows) lt (all-above rows))
    | inr le ↦ All-same (λ s. k < key s) (above key k (r ∷ rows)) (above key k rows) (grind (arith, nat_tests, le)) (all-above rows)
  ]

  found_key : (rows : List R) (r : R) → row_with key k rows ≡ Some r → key r ≡ k
  found_key [] r e = cc
  found_key (s ∷ rows) r e = grind (arith, nat_tests, found_key rows r, e)

  none_below : (rows : List R) → row_with key k (below key k rows) ≡ None
  none_below [] = refl
  none_below (r ∷ rows) = grind (arith, nat_tests, none_below rows)

  -- of the rows below and above, only one kind has another key
  module _ (other : ℕ) where
    lesser_below : other < k → (rows : List R) → row_with key other (below key k rows) ≡ row_with key other rows
    lesser_below lt [] = refl
    lesser_below lt (r ∷ rows) = grind (arith, nat_tests, lesser_below lt rows, lt)

    lesser_above : other < k → (rows : List R) → row_with key other (above key k rows) ≡ None
    lesser_above lt [] = refl
    lesser_above lt (r ∷ rows) = grind (arith, nat_tests, lesser_above lt rows, lt)

    greater_below : k < other → (rows : List R) → row_with key other (below key k rows) ≡ None
    greater_below lt [] = refl
    greater_below lt (r ∷ rows) = grind (arith, nat_tests, greater_below lt rows, lt)

    greater_above : k < other → (rows : List R) → row_with key other (above key k rows) ≡ row_with key other rows
    greater_above lt [] = refl
    greater_above lt (r ∷ rows) = grind (arith, nat_tests, greater_above lt rows, lt)

  -- rows of lesser keys, a row of the key and rows of greater keys
  joined : (lesser greater : List R) (x : R) → key x ≡ k → Ascending key lesser → All (λ r. key r < k) lesser
      → Ascending key greater → All (λ r. k < key r) greater → Ascending key (lesser ++ x ∷ greater)
  joined [] greater x e rising before rising' after =
      AllPairs-cons (λ a b. key a < key b) x greater (All-weaker (λ r. k < key r) (λ r. key x < key r) (λ r h. omega (arith, h, e)) greater after) rising'
  joined (r ∷ lesser) greater x e rising before rising' after =
      let lt : key r < k = All-head (λ s. key s < k) r lesser before in
      let later : All (λ s. key r < key s) lesser = λ i d h. rising zero (suc i) d (omega arith) (omega (arith, h)) in
      let rest : Ascending key lesser = λ i j d h h'. rising (suc i) (suc j) d (omega (arith, h)) (omega (arith, h')) in
      let behind : All (λ s. key r < key s) (x ∷ greater) = All-cons (λ s. key r < key s) x greater (omega (arith, lt, e)) (All-weaker (λ s. k < key s) (λ s. key r < key s) (λ s h. omega (arith, h, lt)) greater after) in
      AllPairs-cons (λ a b. key a < key b) r (lesser ++ x ∷ greater) (All-append (λ s. key r < key s) lesser (x ∷ greater) later behind)
      (joined lesser greater x e rest (All-tail (λ s. key s < k) r lesser before) rising' after)

option_or-none : {X : Type 0} (o : Option X) → option_or o None ≡ o
option_or-none None = refl
option_or-none (Some x) = refl

-- the other keys' rows stand
others : {R : Type 0} (key : R → ℕ) (k other : ℕ) (rows : List R) → other ≢ k
    → option_or (row_with key other (below key k rows)) (row_with key other (above key k rows)) ≡ row_with key other rows
others key k other rows differ = elim (cases_lt other k) [
  | inl lt ↦ rw (lesser_below key k other lt rows, lesser_above key k other lt rows, option_or-none (row_with key other rows))
  | inr le ↦ let lt : k < other = omega (arith, le, differ) in rw (greater_below key k other lt rows, greater_above key k other lt rows)
]

abbrev taken_of : {R : Type 0} → List R → Result (Rows R) TableRefusal → List R
taken_of other (Ok rows) = rows.taken
taken_of other (Err refusal) = other

taken_then : {R : Type 0} (taken : List R) (o : Option R) (free : List R) (rows : Rows R) → taking taken o free ≡ Ok rows → rows.taken ≡ taken
taken_then taken (Some row) free rows e = sym (ap (taken_of taken) e)
taken_then taken None [] rows e = cc
taken_then taken None (f ∷ free) rows e = sym (ap (taken_of taken) e)

module _ {R N : Type 0} (key : R → ℕ) (row : N → List N → R) (next : R → N → R) (goes : GoesOn key row next) where
  -- a row that was found has the key of the noting, and so has a new one
  grown_key : (rows : List R) (n : N) (o : Option R) → row_with key (key_noted key row n) rows ≡ o → key (grown key row next o n) ≡ key_noted key row n
  grown_key rows n None e = refl
  grown_key rows n (Some r) e = goes.same_key r n ∙ found_key key (key_noted key row n) rows r e

  -- the notings under a key go on by one
  grown_by : (ns : List N) (n : N) → Some (grown key row next (row_by row ns) n) ≡ row_by row (ns ++ n ∷ [])
  grown_by [] n = refl
  grown_by (m ∷ ns) n = ap Some (goes.one_more m ns n)

  -- its key's row is the one that went on
  same_each : (rows : List R) (ns : List N) (n : N) → Law key row rows ns
      → row_with key (key_noted key row n) (noted key row next rows n) ≡ row_by row (noted_under key row (key_noted key row n) (ns ++ n ∷ []))
  same_each rows ns n law =
      let k = key_noted key row n in
      let x = grown key row next (row_with key k rows) n in
      let own : key x ≡ k = grown_key rows n (row_with key k rows) refl in
      let here : row_with key k (x ∷ above key k rows) ≡ Some x = grind (arith, nat_tests, own) in
      let this : noted_under key row k (n ∷ []) ≡ n ∷ [] = grind (arith, nat_tests) in
      let log : noted_under key row k (ns ++ n ∷ []) ≡ noted_under key row k ns ++ n ∷ [] =
      filter-append (λ m. key_noted key row m == k) ns (n ∷ []) ∙ ap (λ l. noted_under key row k ns ++ l) this in
      find-append (λ r. key r == k) (below key k rows) (x ∷ above key k rows)
      ∙ ap (λ o. option_or o (row_with key k (x ∷ above key k rows))) (none_below key k rows)
      ∙ here
      ∙ ap (λ o. Some (grown key row next o n)) (law.each k)
      ∙ grown_by (noted_under key row k ns) n
      ∙ ap (row_by row) (sym log)

  -- the row of any other key stays
  other_each : (rows : List R) (ns : List N) (n : N) (k : ℕ) → k ≢ key_noted key row n → Law key row rows ns
      → row_with key k (noted key row next rows n) ≡ row_by row (noted_under key row k (ns ++ n ∷ []))
  other_each rows ns n k differ law =
      let own = key_noted key row n in
      let x = grown key row next (row_with key own rows) n in
      let has : key x ≡ own = grown_key rows n (row_with key own rows) refl in
      let past : row_with key k (x ∷ above key own rows) ≡ row_with key k (above key own rows) = grind (arith, nat_tests, has, differ) in
      let this : noted_under key row k (n ∷ []) ≡ [] = grind (arith, nat_tests, differ) in
      let log : noted_under key row k (ns ++ n ∷ []) ≡ noted_under key row k ns =
      filter-append (λ m. key_noted key row m == k) ns (n ∷ []) ∙ ap (λ l. noted_under key row k ns ++ l) this ∙ append-nil (noted_under key row k ns) in
      find-append (λ r. key r == k) (below key own rows) (x ∷ above key own rows)
      ∙ ap (option_or (row_with key k (below key own rows))) past
      ∙ others key own k rows differ
      ∙ law.each k
      ∙ ap (row_by row) (sym log)

  ascending_noted : (rows : List R) (n : N) → Ascending key rows → Ascending key (noted key row next rows n)
  ascending_noted rows n sorted =
      let own = key_noted key row n in
      joined key own (below key own rows) (above key own rows) (grown key row next (row_with key own rows) n) (grown_key rows n (row_with key own rows) refl)
      (AllPairs-filter (λ a b. key a < key b) (λ r. nat_lt (key r) own) rows sorted) (all-below key own rows)
      (AllPairs-filter (λ a b. key a < key b) (λ r. nat_lt own (key r)) rows sorted) (all-above key own rows)

  -- a noting keeps the order
  pub order_kept : (rows rows' : Rows R) (n : N) (r : Result (Unit {0}) TableRefusal) → Ascending key rows.taken → Notes key row next rows n r rows' → Ascending key rows'.taken
  order_kept rows rows' n (Ok done) sorted e =
      subst (Ascending key) (sym (taken_then (noted key row next rows.taken n) (row_with key (key_noted key row n) rows.taken) rows.free rows' e)) (ascending_noted rows.taken n sorted)
  order_kept rows rows' n (Err refusal) sorted e = subst (Ascending key) (sym (ap (λ x. x.taken) e.1)) sorted

  law_noted : (rows : List R) (ns : List N) (n : N) → Law key row rows ns → Law key row (noted key row next rows n) (ns ++ n ∷ [])
  law_noted rows ns n law = record {
    ascending = ascending_noted rows n law.ascending;
    each = λ k. elim (cases_eq k (key_noted key row n)) [
      | inl same ↦ let P : ℕ → Type 0 = λ j. row_with key j (noted key row next rows n) ≡ row_by row (noted_under key row j (ns ++ n ∷ [])) in subst P (sym same) (same_each rows ns n law)
      | inr differ ↦ other_each rows ns n k differ law
    ];
  }

  law_step : (rows rows' : Rows R) (ns : List N) (n : N) (r : Result (Unit {0}) TableRefusal) → Law key row rows.taken ns
      → Notes key row next rows n r rows' → Law key row rows'.taken (ns ++ accepted_if r n)
  law_step rows rows' ns n (Ok done) law e =
      let P : List R → Type 0 = λ l. Law key row l (ns ++ n ∷ []) in
      subst P (sym (taken_then (noted key row next rows.taken n) (row_with key (key_noted key row n) rows.taken) rows.free rows' e)) (law_noted rows.taken ns n law)
  law_step rows rows' ns n (Err refusal) law e =
      let P : List N → Type 0 = λ l. Law key row rows'.taken l in
      let Q : List R → Type 0 = λ l. Law key row l ns in
      subst P (sym (append-nil ns)) (subst Q (sym (ap (λ x. x.taken) e.1)) law)

  law_begun : Law key row [] []
  law_begun = record { ascending = λ i j d h h'. absurd (omega (arith, h')); each = λ k. refl }

  pub law_of : {rows : Rows R} {ns : List N} → Log key row next rows ns → Law key row rows.taken ns
  law_of {ns = ns} (begun none empty) =
      let P : List R → Type 0 = λ l. Law key row l ns in
      let Q : List N → Type 0 = λ l. Law key row [] l in
      subst P (sym none) (subst Q (sym empty) law_begun)
  law_of (note {rows = before} {rows' = after} {ns = ns} log n r step more) =
      let law = law_of log in
      let P : List N → Type 0 = λ l. Law key row after.taken l in
      subst P (sym more) (law_step before after ns n r law (step law.ascending))
