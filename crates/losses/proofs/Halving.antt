-- How a search narrows the places that are left.
use Rattle.std.proofs.Common.{◌≡◌, ℕ, ◌+◌, ◌<◌, ◌≤◌, List, length, inl, inr, get_or, take, drop, sym, ◌∙◌, ap, subst, arith, length-take, length-drop, get_or-take, get_or-drop}
use Rattle.std.specs.List.{All}
use Rattle.std.proofs.lemmas.List.{get_or_default, drop_all}
use Rattle.std.proofs.lemmas.List.Elements.{All-nil, All-more}
use Rattle.std.proofs.Math.Nat.{eq-or-lt_of_le}
use Rattle.losses.specs.Order.{InOrder, IsFirstFrom}

-- what lies before `low` is below the key, and what lies from `high` on is not
pub record IsBetween {R : Type 0} (key : R → ℕ) (rows : List R) (k low high : ℕ) : Type 0 where
  pub before : All (λ r. key r < k) (take low rows)
  pub from_there : All (λ r. k ≤ key r) (drop high rows)

module _ {R : Type 0} (key : R → ℕ) (rows : List R) (k : ℕ) where
  pub between_all : IsBetween key rows k 0 (length rows)
  between_all = record {
    before = All-nil (λ r. key r < k);
    from_there = let P : List R → Type 0 = All (λ r. k ≤ key r) in subst P (sym (drop_all (length rows) rows (omega arith))) (All-nil (λ r. k ≤ key r));
  }

  pub between_none : (low high : ℕ) → low ≡ high → IsBetween key rows k low high → IsFirstFrom key rows k low
  between_none low high e b = record {
    before = b.before;
    from_there = let P : ℕ → Type 0 = λ h. All (λ r. k ≤ key r) (drop h rows) in subst P (sym e) b.from_there;
  }

  module _ (low high m : ℕ) (x : R) (within : m < length rows) (read : x ≡ get_or rows m x) (sorted : InOrder key rows) (b : IsBetween key rows k low high) where
    same_key : (d : R) → key (get_or rows m d) ≡ key x
    same_key d = ap key (get_or_default rows m d x within ∙ sym read)

    lower : key x < k → All (λ r. key r < k) (take m rows)
    lower lt i d h =
        let before : i < m = omega (arith, h, length-take m rows) in
        let rises : key (get_or rows i d) ≤ key (get_or rows m d) = sorted i m d before within in
        omega (arith, lt, rises, same_key d, ap key (get_or-take m rows i d before))

    -- the places after the middle are left
    pub narrow_up : key x < k → IsBetween key rows k (m + 1) high
    narrow_up lt = record {
      before = All-more (λ r. key r < k) rows m x within (lower lt) (omega (arith, lt, same_key x));
      from_there = b.from_there;
    }

    -- the places before the middle are left
    pub narrow_down : k ≤ key x → IsBetween key rows k low m
    narrow_down le = record {
      before = b.before;
      from_there = λ i d h.
          let in_rows : m + i < length rows = omega (arith, h, length-drop m rows, within) in
          let at_middle : (i ≡ 0) → k ≤ key (get_or rows (m + i) d) = λ z. let e : m + i ≡ m = omega arith in omega (arith, le, same_key d, ap (λ j. key (get_or rows j d)) e) in
          let after : (0 < i) → k ≤ key (get_or rows (m + i) d) = λ p. let rises : key (get_or rows m d) ≤ key (get_or rows (m + i) d) = sorted m (m + i) d (omega arith) in_rows in omega (arith, le, same_key d, rises) in
          let up : 0 ≤ i = omega arith in
          let here : k ≤ key (get_or rows (m + i) d) = elim (eq-or-lt_of_le up) [ inl z ↦ at_middle (sym z) | inr p ↦ after p ] in
          omega (arith, ap key (get_or-drop m rows i d), here);
    }
