-- Entries read of a recording, entered one after the other. Assumes nothing.
use Rattle.std.proofs.Common.{◌≡◌, ℕ, ◌+◌, ◌≤◌, false, leb, List, [], ◌∷◌, refl, sym, ap, ◌∙◌, subst, arith}
use Rattle.std.proofs.lemmas.Bool.Decides.{nat_tests}
use Rattle.records.specs.Services.{Services}
use Rattle.tecmp.specs.Reading.{Entry}
use Rattle.tecmp.specs.declared.head.Stream.{Stream}
use Rattle.canonical.specs.declared.state.Extent.{Extent}
use Rattle.canonical.specs.Recopying.{Served}
use Rattle.canonical.specs.States.{nothing, after, put, after_all, put_all}
use Rattle.canonical.proofs.Growth.{grows_all}

-- what is left: it is served, and leads from here to where all lead
pub record Leads (services : Services) (all : Extent) (x : Extent) (left : List Entry) : Type 0 where
  pub served : Served services left
  pub reach : all ≡ after_all services x left

pub starts : (services : Services) (x : Extent) (es left : List Entry) → x ≡ nothing → left ≡ es → Served services es → Leads services (after_all services nothing es) x left
starts services x es left fresh same served = record {
  served = subst (Served services) (sym same) served;
  reach = ap (after_all services nothing) (sym same) ∙ ap (λ y. after_all services y left) (sym fresh);
}

module _ (services : Services) (all x : Extent) (e : Entry) (left rest : List Entry) (leads : Leads services all x left) (first : left ≡ e ∷ rest) where
  pub here : Served services (e ∷ rest)
  here = subst (Served services) first leads.served

  pub further : (y : Extent) → y ≡ after services x e → Leads services all y rest
  further y grown = record { served = here.1; reach = leads.reach ∙ ap (after_all services x) first ∙ ap (λ z. after_all services z rest) (sym grown) }

  -- the copy grows
  pub longer : (y : Extent) → y ≡ after services x e → y.length ≤ all.length
  longer y grown =
      let g : (after services x e).length ≤ (after_all services (after services x e) rest).length = grows_all services (after services x e) rest refl in
      omega (arith, g, ap (λ (z : Extent). z.length) grown, ap (λ (z : Extent). z.length) (leads.reach ∙ ap (after_all services x) first))

pub ended : (services : Services) (all x : Extent) (left : List Entry) → Leads services all x left → left ≡ [] → all ≡ x
ended services all x left leads none = leads.reach ∙ ap (after_all services x) none

pub too_long : (m n c : ℕ) → m ≤ n → leb (m + 4) c ≡ false → false ≡ leb (n + 4) c
too_long m n c h e = grind (arith, nat_tests)

pub fits_on : (services : Services) (all x y : Extent) (e : Entry) (left rest : List Entry) (n : ℕ) → Leads services all x left → left ≡ e ∷ rest → y ≡ after services x e → all.length + 4 ≤ n → y.length ≤ n
fits_on services all x y e left rest n leads first grown fits = omega (arith, longer services all x e left rest leads first y grown, fits)

-- and the output
module _ (services : Services) (stream : Stream) (x : Extent) (e : Entry) (left rest : List Entry) (first : left ≡ e ∷ rest) where
  pub put_further : (whole o p : List ℕ) (y : Extent) → whole ≡ put_all services stream x left o → y ≡ after services x e → p ≡ put services stream x e o → whole ≡ put_all services stream y rest p
  put_further whole o p y w grown written =
      w ∙ ap (λ es. put_all services stream x es o) first ∙ ap (λ z. put_all services stream z rest (put services stream x e o)) (sym grown) ∙ ap (put_all services stream y rest) (sym written)
