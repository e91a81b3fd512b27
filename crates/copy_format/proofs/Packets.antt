-- Which items may stand in one packet. Assumes nothing.
use Rattle.std.proofs.Common.{◌≡◌, ℕ, ◌+◌, ◌≤◌, Bool, true, false, ◌&&◌, ◌||◌, eqb, leb, List, [], ◌∷◌, ◌++◌, length, refl, ap, ◌∙◌, arith}
use Rattle.std.specs.List.{AllByRecursion}
use Rattle.std.proofs.lemmas.Bool.{and_parts, and_from, leb-true, le-leb, eqb-true}
use Rattle.copy_format.specs.Cutting.{flat, cut, Passes}
use Rattle.copy_format.specs.Image.{type_in}
use Rattle.copy_format.specs.Items.{Item, size, sizes, all_of_type, none, allowed}
use Rattle.copy_format.proofs.Cuts.{minimal}

pub sizes-++ : (p s : List Item) → sizes (p ++ s) ≡ sizes p + sizes s
sizes-++ [] s = omega arith
sizes-++ (i ∷ p) s = let e : sizes (p ++ s) ≡ sizes p + sizes s = sizes-++ p s in omega arith

pub sizes-push : (p : List Item) (i : Item) → sizes (p ++ i ∷ []) ≡ sizes p + size i
sizes-push p i = let e = sizes-++ p (i ∷ []) in omega arith

type_front : (t : ℕ) (p s : List Item) → all_of_type t (p ++ s) ≡ true → all_of_type t p ≡ true
type_front t [] s h = refl
type_front t (i ∷ p) s h =
    let a = and_parts (eqb t i.data_type) (all_of_type t (p ++ s)) h in
    and_from (eqb t i.data_type) (all_of_type t p) a.0 (type_front t p s a.1)

type_push : (t : ℕ) (p : List Item) (i : Item) → all_of_type t p ≡ true → all_of_type t (p ++ i ∷ []) ≡ eqb t i.data_type
type_push t [] i h = last (eqb t i.data_type)
  where
    last : (b : Bool) → (b && true) ≡ b
    last true = refl
    last false = refl
type_push t (x ∷ p) i h =
    let a = and_parts (eqb t x.data_type) (all_of_type t p) h in
    ap (λ b. b && all_of_type t (p ++ i ∷ [])) a.0 ∙ type_push t p i a.1

-- the parts of the test
pub record Fine (shares : ℕ → Bool) (limit : ℕ) (i : Item) (is : List Item) : Type 0 where
  pub within : 12 + sizes (i ∷ is) ≤ limit
  pub one_type : all_of_type i.data_type is ≡ true
  pub may_share : (none is || shares i.data_type) ≡ true

module _ (shares : ℕ → Bool) (limit : ℕ) where
  pub fine : (i : Item) (is : List Item) → allowed shares limit (i ∷ is) ≡ true → Fine shares limit i is
  fine i is h =
      let a = and_parts (leb (12 + sizes (i ∷ is)) limit) (all_of_type i.data_type is && (none is || shares i.data_type)) h in
      let b = and_parts (all_of_type i.data_type is) (none is || shares i.data_type) a.1 in
      record { within = leb-true _ _ a.0; one_type = b.0; may_share = b.1 }

  pub from_fine : (i : Item) (is : List Item) → Fine shares limit i is → allowed shares limit (i ∷ is) ≡ true
  from_fine i is f =
      and_from (leb (12 + sizes (i ∷ is)) limit) (all_of_type i.data_type is && (none is || shares i.data_type)) (le-leb _ _ f.within)
      (and_from (all_of_type i.data_type is) (none is || shares i.data_type) f.one_type f.may_share)

  -- a part of a packet is a packet
  pub front : (p s : List Item) → allowed shares limit (p ++ s) ≡ true → allowed shares limit p ≡ true
  front [] s h = refl
  front (i ∷ p) s h =
      let f = fine i (p ++ s) h in
      let z = sizes-++ p s in
      from_fine i p (record { within = omega (arith, f.within); one_type = type_front i.data_type p s f.one_type; may_share = go p f.may_share })
    where
      go : (q : List Item) → (none (q ++ s) || shares i.data_type) ≡ true → (none q || shares i.data_type) ≡ true
      go [] g = refl
      go (x ∷ q) g = g

  rest : (i : Item) (s : List Item) → allowed shares limit (i ∷ s) ≡ true → allowed shares limit s ≡ true
  rest i [] h = refl
  rest i (x ∷ s) h =
      let f = fine i (x ∷ s) h in
      let a = and_parts (eqb i.data_type x.data_type) (all_of_type i.data_type s) f.one_type in
      let k : i.data_type ≡ x.data_type = eqb-true _ _ a.0 in
      from_fine x s (record { within = omega (arith, f.within); one_type = rw (← k) a.1; may_share = rw (← k) (go s f.may_share) })
    where
      go : (q : List Item) → shares i.data_type ≡ true → (none q || shares i.data_type) ≡ true
      go [] g = refl
      go (y ∷ q) g = g

  pub back : (p s : List Item) → allowed shares limit (p ++ s) ≡ true → allowed shares limit s ≡ true
  back [] s h = h
  back (i ∷ p) s h = back p s (rest i (p ++ s) h)

  -- no fewer packets hold the same items
  pub fewest_packets : (is : List Item) (ps : List (List Item)) → AllByRecursion (Passes (allowed shares limit)) ps → flat ps ≡ is
      → length (cut (allowed shares limit) is) ≤ length ps
  fewest_packets is ps h e = minimal (allowed shares limit) front back is ps h e

  pub alone : (i : Item) → 12 + size i ≤ limit → allowed shares limit (i ∷ []) ≡ true
  alone i h = from_fine i [] (record { within = omega arith; one_type = refl; may_share = refl })

  -- one item more is tested by the packet's size and data type
  pub joins : (q : List Item) (i : Item) → Passes (allowed shares limit) q
      → allowed shares limit (q ++ i ∷ []) ≡ (leb (12 + sizes q + size i) limit && (eqb (type_in q) i.data_type && shares i.data_type))
  joins [] i h = absurd h.0
  joins (x ∷ q) i h =
      let f = fine x q h.1 in
      let z = sizes-push q i in
      let n : 12 + (size x + sizes (q ++ i ∷ [])) ≡ 12 + sizes (x ∷ q) + size i = omega arith in
      let k : (none (q ++ i ∷ []) || shares x.data_type) ≡ shares x.data_type = several q in
      ap (λ m. leb m limit && (all_of_type x.data_type (q ++ i ∷ []) && (none (q ++ i ∷ []) || shares x.data_type))) n
      ∙ ap (λ b. leb (12 + sizes (x ∷ q) + size i) limit && (b && (none (q ++ i ∷ []) || shares x.data_type))) (type_push x.data_type q i f.one_type)
      ∙ ap (λ b. leb (12 + sizes (x ∷ q) + size i) limit && (eqb x.data_type i.data_type && b)) k
      ∙ ap (λ b. leb (12 + sizes (x ∷ q) + size i) limit && b) (same (eqb x.data_type i.data_type) refl)
    where
      several : (r : List Item) → (none (r ++ i ∷ []) || shares x.data_type) ≡ shares x.data_type
      several [] = refl
      several (y ∷ r) = refl

      same : (b : Bool) → eqb x.data_type i.data_type ≡ b → (b && shares x.data_type) ≡ (b && shares i.data_type)
      same true h = ap shares (eqb-true _ _ h)
      same false h = refl
