-- A list cut into runs: nothing is lost, each run passes, one element more, and no fewer runs will do. Assumes nothing.
use Rattle.std.proofs.Common.{◌≡◌, suc, ◌≤◌, Bool, true, false, cond, List, [], ◌∷◌, ◌++◌, length, sym, refl, ap, ◌∙◌, arith}
use Rattle.std.specs.List.{AllByRecursion}
use Rattle.std.proofs.lemmas.List.{append_assoc, append-nil}
use Rattle.std.proofs.lemmas.Bool.{both_ways, cond_both}
use Rattle.copy_format.specs.Cutting.{flat, NonEmpty, Passes, cut_on, cut}

module _ {A : Type 0} (allowed : List A → Bool) where
  -- one element more: to the last run if it stays allowed, else a run of its own
  abbrev pub grow : List (List A) → A → List (List A)
  grow [] e = (e ∷ []) ∷ []
  grow (q ∷ []) e = cond (allowed (q ++ e ∷ [])) ((q ++ e ∷ []) ∷ []) (q ∷ (e ∷ []) ∷ [])
  grow (q ∷ r ∷ rs) e = q ∷ grow (r ∷ rs) e

  -- nothing is lost
  pub flat-cut_on : (p es : List A) → flat (cut_on allowed p es) ≡ p ++ es
  flat-cut_on p [] = refl
  flat-cut_on p (e ∷ es) =
      cond_both (allowed (p ++ e ∷ [])) (cut_on allowed (p ++ e ∷ []) es) (p ∷ cut_on allowed (e ∷ []) es) (λ c. flat c ≡ p ++ e ∷ es)
      (λ _. flat-cut_on (p ++ e ∷ []) es ∙ append_assoc p (e ∷ []) es)
      (λ _. ap (λ r. p ++ r) (flat-cut_on (e ∷ []) es))

  pub flat-cut : (es : List A) → flat (cut allowed es) ≡ es
  flat-cut [] = refl
  flat-cut (e ∷ es) = flat-cut_on (e ∷ []) es

  -- each run passes the test, and is not empty
  snoc_nonempty : (p : List A) (e : A) → NonEmpty (p ++ e ∷ [])
  snoc_nonempty [] e = tt
  snoc_nonempty (x ∷ p) e = tt

  pub passes_cut_on : (p es : List A) → Passes allowed p → AllByRecursion (λ e. allowed (e ∷ []) ≡ true) es → AllByRecursion (Passes allowed) (cut_on allowed p es)
  passes_cut_on p [] h each = (h, tt)
  passes_cut_on p (e ∷ es) h each =
      cond_both (allowed (p ++ e ∷ [])) (cut_on allowed (p ++ e ∷ []) es) (p ∷ cut_on allowed (e ∷ []) es) (AllByRecursion (Passes allowed))
      (λ y. passes_cut_on (p ++ e ∷ []) es (snoc_nonempty p e, y) each.1)
      (λ _. (h, passes_cut_on (e ∷ []) es (tt, each.0) each.1))

  pub passes_cut : (es : List A) → AllByRecursion (λ e. allowed (e ∷ []) ≡ true) es → AllByRecursion (Passes allowed) (cut allowed es)
  passes_cut [] each = tt
  passes_cut (e ∷ es) each = passes_cut_on (e ∷ []) es (tt, each.0) each.1

  -- one element more, the step that a program takes
  pub nonempty_cut_on : (p es : List A) → NonEmpty (cut_on allowed p es)
  nonempty_cut_on p [] = tt
  nonempty_cut_on p (e ∷ es) =
      cond_both (allowed (p ++ e ∷ [])) (cut_on allowed (p ++ e ∷ []) es) (p ∷ cut_on allowed (e ∷ []) es) NonEmpty (λ _. nonempty_cut_on (p ++ e ∷ []) es) (λ _. tt)

  grow_cons : (p : List A) (qs : List (List A)) (e : A) → NonEmpty qs → grow (p ∷ qs) e ≡ p ∷ grow qs e
  grow_cons p [] e h = absurd h
  grow_cons p (q ∷ qs) e h = refl

  pub grow_last : (front : List (List A)) (q : List A) (e : A) → grow (front ++ q ∷ []) e ≡ front ++ grow (q ∷ []) e
  grow_last [] q e = refl
  grow_last (p ∷ front) q e = grow_cons p (front ++ q ∷ []) e (nonempty front) ∙ ap (λ r. p ∷ r) (grow_last front q e)
    where
      nonempty : (f : List (List A)) → NonEmpty (f ++ q ∷ [])
      nonempty [] = tt
      nonempty (x ∷ f) = tt

  pub cut_on-push : (p es : List A) (x : A) → cut_on allowed p (es ++ x ∷ []) ≡ grow (cut_on allowed p es) x
  cut_on-push p [] x = refl
  cut_on-push p (e ∷ es) x =
      let b = allowed (p ++ e ∷ []) in
      cond_both b (cut_on allowed (p ++ e ∷ []) es) (p ∷ cut_on allowed (e ∷ []) es)
      (λ c. cond b (cut_on allowed (p ++ e ∷ []) (es ++ x ∷ [])) (p ∷ cut_on allowed (e ∷ []) (es ++ x ∷ [])) ≡ grow c x)
      (λ y. rw y (cut_on-push (p ++ e ∷ []) es x))
      (λ n. rw n (ap (λ r. p ∷ r) (cut_on-push (e ∷ []) es x) ∙ sym (grow_cons p (cut_on allowed (e ∷ []) es) x (nonempty_cut_on (e ∷ []) es))))

  pub cut-push : (es : List A) (x : A) → cut allowed (es ++ x ∷ []) ≡ grow (cut allowed es) x
  cut-push [] x = refl
  cut-push (e ∷ es) x = cut_on-push (e ∷ []) es x

  -- as a program has it: finished runs and a last one
  pub cut_joins : (es : List A) (x : A) (front : List (List A)) (q : List A) → cut allowed es ≡ front ++ q ∷ [] → allowed (q ++ x ∷ []) ≡ true → cut allowed (es ++ x ∷ []) ≡ front ++ (q ++ x ∷ []) ∷ []
  cut_joins es x front q c y = cut-push es x ∙ ap (λ r. grow r x) c ∙ grow_last front q x ∙ rw y

  pub cut_begins : (es : List A) (x : A) (front : List (List A)) (q : List A) → cut allowed es ≡ front ++ q ∷ [] → allowed (q ++ x ∷ []) ≡ false → cut allowed (es ++ x ∷ []) ≡ front ++ q ∷ (x ∷ []) ∷ []
  cut_begins es x front q c n = cut-push es x ∙ ap (λ r. grow r x) c ∙ grow_last front q x ∙ rw n

  -- the fewest runs, for a test that each part of a passing run passes
  module _ (front : (p s : List A) → allowed (p ++ s) ≡ true → allowed p ≡ true) (back : (p s : List A) → allowed (p ++ s) ≡ true → allowed s ≡ true) where
    Close : List A → List A → List A → Type 0
    Close p r es = (length (cut_on allowed p es) ≤ length (cut_on allowed (r ++ p) es)) × (length (cut_on allowed (r ++ p) es) ≤ suc (length (cut_on allowed p es)))

    -- a run begun earlier costs no less, and at most one more
    close : (p r es : List A) → Close p r es
    unfolding Close
    close p r [] = (omega arith, omega arith)
    close p r (e ∷ es) = go (allowed (p ++ e ∷ [])) (allowed ((r ++ p) ++ e ∷ [])) refl refl (close (p ++ e ∷ []) r es) (close (e ∷ []) p es) (close (e ∷ []) (r ++ p) es)
      where
        go : (b c : Bool) → allowed (p ++ e ∷ []) ≡ b → allowed ((r ++ p) ++ e ∷ []) ≡ c → Close (p ++ e ∷ []) r es → Close (e ∷ []) p es → Close (e ∷ []) (r ++ p) es → Close p r (e ∷ es)
        go true true hb hc i j k = rw (hb, hc) (rw (← append_assoc r p (e ∷ [])) at i)
        go true false hb hc i j k = rw (hb, hc) (omega arith)
        go false true hb hc i j k = absurd (both_ways (allowed (p ++ e ∷ [])) hb (back r (p ++ e ∷ []) (ap allowed (sym (append_assoc r p (e ∷ []))) ∙ hc)))
        go false false hb hc i j k = rw (hb, hc) (omega arith)

    one_more : (q es : List A) → length (cut_on allowed q es) ≤ suc (length (cut allowed es))
    one_more q [] = omega arith
    one_more q (e ∷ es) =
        cond_both (allowed (q ++ e ∷ [])) (cut_on allowed (q ++ e ∷ []) es) (q ∷ cut_on allowed (e ∷ []) es) (λ c. length c ≤ suc (length (cut_on allowed (e ∷ []) es)))
        (λ _. unfold Close in (close (e ∷ []) q es).1)
        (λ _. omega arith)

    -- the first run takes a whole passing run
    eats : (p s es : List A) → allowed (p ++ s) ≡ true → cut_on allowed p (s ++ es) ≡ cut_on allowed (p ++ s) es
    eats p [] es h = ap (λ q. cut_on allowed q es) (sym (append-nil p))
    eats p (x ∷ s) es h =
        let a = append_assoc p (x ∷ []) s in
        let i : allowed ((p ++ x ∷ []) ++ s) ≡ true = ap allowed a ∙ h in
        rw (front (p ++ x ∷ []) s i) (eats (p ++ x ∷ []) s es i ∙ ap (λ q. cut_on allowed q es) a)

    pub fewest : (ps : List (List A)) → AllByRecursion (Passes allowed) ps → length (cut allowed (flat ps)) ≤ length ps
    fewest [] h = omega arith
    fewest ([] ∷ ps) h = absurd h.0.0
    fewest ((x ∷ q) ∷ ps) h =
        let f : length (cut allowed (flat ps)) ≤ length ps = fewest ps h.1 in
        let o : length (cut_on allowed (x ∷ q) (flat ps)) ≤ suc (length (cut allowed (flat ps))) = one_more (x ∷ q) (flat ps) in
        rw (eats (x ∷ []) q (flat ps) h.0.1) (omega arith)

    pub minimal : (es : List A) (ps : List (List A)) → AllByRecursion (Passes allowed) ps → flat ps ≡ es → length (cut allowed es) ≤ length ps
    minimal es ps h e = rw (← e) (fewest ps h)
