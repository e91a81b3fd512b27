-- A packet has no more entries than bytes, and refuses at an offset in it or just after it. Assumes nothing.
use Rattle.std.proofs.Common.{◌≡◌, ℕ, zero, suc, ◌+◌, ◌-◌, ◌≤◌, Bool, true, false, cond, ◌&&◌, eqb, ltb, leb, List, [], ◌∷◌, length, drop, Some, None, Ok, Err, Option, Result, sym, refl, subst, arith}
use Rattle.records.specs.Numbers.{offset_of}
use Rattle.records.specs.Services.{Services, Service}
use Rattle.records.specs.Tests.{tested}
use Rattle.records.specs.declared.code.Code.{Code}
use Rattle.records.specs.declared.refusal.Refusal.TheVariants.{PastEnd, NotShared, Padding}
use Rattle.tecmp.specs.Entries.{Entries, before, onward, entries_by, entries_from, entries}
use Rattle.tecmp.specs.Layout.{zeros, code_of}
use Rattle.tecmp.specs.Reading.{Entry, Found, Answer, head_tests, entry_tests, found_of, here, of_rest_by, inside_by}
use Rattle.tecmp.specs.declared.head.Stream.{Stream}
use Rattle.tecmp.proofs.Walks.{entered, entries_on}

-- what holds of each refusal of a row of tests, and of the answer, holds of what the row lets through
abbrev pub Each : {A E : Type 0} → (Result A E → Type 0) → List (Bool × E) → Type 0
Each P [] = Unit {0}
Each P (t ∷ ts) = P (Err t.1) × Each P ts

pub tested_holds : {A E : Type 0} (P : Result A E → Type 0) (ts : List (Bool × E)) (r : Result A E) → Each P ts → P r → P (tested ts r)
tested_holds P [] r each h = h
tested_holds P ((true, w) ∷ ts) r each h = tested_holds P ts r each.1 h
tested_holds P ((false, w) ∷ ts) r each h = each.0

abbrev Within : ℕ → Answer → Type 0
Within n (Ok x) = Unit {0}
Within n (Err w) = offset_of w ≤ n

-- at most so many entries, or a refusal up to this offset
abbrev pub Bounded : ℕ → ℕ → Entries → Type 0
Bounded n last (Ok es) = length es ≤ n
Bounded n last (Err w) = offset_of w ≤ last

one_more : (n last : ℕ) (e : Entry) (es : Entries) → Bounded n last es → Bounded (suc n) last (before e es)
one_more n last e (Ok es) h = omega (arith, h)
one_more n last e (Err w) h = h

module _ (v : Service) (shares : Bool) (code : Code) (s : List ℕ) where
  here_within : (at : ℕ) (t : List ℕ) → Within at (here v code at t)
  here_within at t =
      let same : at ≤ at = omega arith in
      tested_holds (Within at) (entry_tests v code at t) (Ok (Some (found_of code at t))) (same, (same, (same, (same, (same, tt))))) tt

  rest_within : (n at : ℕ) (t : List ℕ) → Within at (of_rest_by v shares code n at t)
  rest_within n at t = go (eqb (length t) 0) (ltb 12 at) (zeros t) (leb n 46) shares
    where
      go : (a b z l s : Bool) → Within at (cond a (Ok None) (cond b (cond z (cond l (Ok None) (Err (Padding at))) (cond s (here v code at t) (Err (NotShared at)))) (here v code at t)))
      go true b z l s = tt
      go false true true true s = tt
      go false true true false s = omega arith
      go false true false l true = here_within at t
      go false true false l false = omega arith
      go false false z l s = here_within at t

  inside_within : (at : ℕ) → Within at (inside_by v shares code s at)
  inside_within at =
      let same : at ≤ at = omega arith in
      tested_holds (Within at) ((leb 12 at && leb at (length s), PastEnd at) ∷ []) (of_rest_by v shares code (length s) at (drop at s)) (same, tt) (rest_within (length s) at (drop at s))

  -- by what is read here, if what follows an entry is bounded
  here_bounded : (n last at : ℕ) (a : Answer) → Within last a → ((f : Found) → a ≡ Ok (Some f) → (m : ℕ) × (n ≡ suc m) × Bounded m last (entries_by v shares code s f.next)) → Bounded n last (onward a (entries_by v shares code s))
  here_bounded n last at (Err w) low rest = low
  here_bounded n last at (Ok None) low rest = omega arith
  here_bounded n last at (Ok (Some f)) low rest =
      let r = rest f refl in
      subst (λ k. Bounded k last (before f.entry (entries_by v shares code s f.next))) (sym r.1) (one_more r.0 last f.entry (entries_by v shares code s f.next) r.2)

  further : (last at : ℕ) (a : Answer) → at ≤ last → Within at a → Within last a
  further last at (Ok x) h low = tt
  further last at (Err w) h low = omega (arith, low)

  bounded_from : (n at : ℕ) → length s - at ≤ n → at ≤ length s + 12 → Bounded n (length s + 12) (entries_by v shares code s at)
  bounded_from zero at few low =
      subst (Bounded 0 (length s + 12)) (sym (entries_on v shares code s at))
      (here_bounded 0 (length s + 12) at (inside_by v shares code s at) (further (length s + 12) at (inside_by v shares code s at) low (inside_within at))
      (λ f e. let i = entered v shares code s at f e in absurd (omega (arith, i.ahead, i.within, few))))
  bounded_from (suc n) at few low =
      subst (Bounded (suc n) (length s + 12)) (sym (entries_on v shares code s at))
      (here_bounded (suc n) (length s + 12) at (inside_by v shares code s at) (further (length s + 12) at (inside_by v shares code s at) low (inside_within at))
      (λ f e. let i = entered v shares code s at f e in (n, refl, bounded_from n f.next (omega (arith, i.ahead, i.within, few)) (omega (arith, i.within)))))

pub bounded : (services : Services) (stream : Option Stream) (s : List ℕ) → Bounded (length s) (length s + 12) (entries services stream s)
bounded services stream s =
    let low : 0 ≤ length s + 12 = omega arith in
    tested_holds (Bounded (length s) (length s + 12)) (head_tests services stream s) (entries_from (services (code_of s)) (code_of s) s 12)
    (low, (low, (low, (low, (low, (low, (low, (low, (low, tt)))))))))
    (bounded_from (services (code_of s)) _ (code_of s) s (length s) 12 (omega arith) (omega arith))
