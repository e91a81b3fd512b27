-- Reading on from entry to entry. Assumes nothing.
use Rattle.std.proofs.Common.{◌≡◌, ℕ, zero, suc, ◌+◌, ◌-◌, ◌<◌, ◌≤◌, Bool, true, false, cond, ◌&&◌, eqb, ltb, leb, List, [], ◌∷◌, length, drop, is_ok, Some, None, Ok, Err, Option, Result, sym, refl, ap, ap₂, ◌∙◌, subst, arith, length-drop, ltb-true, leb-true}
use Rattle.std.proofs.lemmas.Bool.Decides.{nat_tests}
use Rattle.std.proofs.lemmas.Bool.{and_parts}
use Rattle.records.specs.declared.code.Code.{Code}
use Rattle.tecmp.specs.declared.head.Head.{Head}
use Rattle.tecmp.specs.declared.head.Stream.{Stream}
use Rattle.tecmp.specs.declared.packet.Packet.{Packet}
use Rattle.records.specs.declared.refusal.Refusal.{Refusal}
use Rattle.records.specs.declared.refusal.Refusal.TheVariants.{PastEnd, NotShared, Padding}
use Rattle.tecmp.specs.Entries.{Entries, before, onward, walked_by, entries_by, entries_from, counted, ByReading}
use Rattle.tecmp.specs.Steps.{Steps, steps_from, steps_left, read_from, entries_left, left}
use Rattle.tecmp.specs.Views.{viewed}
use Rattle.tecmp.specs.declared.entries.PacketEntries.{PacketEntries}
use Rattle.tecmp.specs.declared.entry.EntryView.{EntryView}
use Rattle.tecmp.specs.Layout.{zeros, data_length, code_of}
use Rattle.tecmp.specs.Reading.{Entry, Found, Answer, head_tests, head_of, head_reading, entry_tests, found_of, here, of_rest_by, inside_by, inside}
use Rattle.records.specs.Services.{Services, Service, shares_in, checked_by}
use Rattle.records.specs.Tests.{tested, Passed}
use Rattle.records.proofs.Tested.{passed, tested_ok, tested_err}

-- an entry is found only where its own tests pass
rest_found : (v : Service) (shares : Bool) (code : Code) (n at : ℕ) (t : List ℕ) (f : Found) → of_rest_by v shares code n at t ≡ Ok (Some f) → here v code at t ≡ Ok (Some f)
rest_found v shares code n at t f = go (eqb (length t) 0) (ltb 12 at) (zeros t) (leb n 46) shares
  where
    go : (a b z l s : Bool) → cond a (Ok None) (cond b (cond z (cond l (Ok None) (Err (Padding at))) (cond s (here v code at t) (Err (NotShared at)))) (here v code at t)) ≡ Ok (Some f) → here v code at t ≡ Ok (Some f)
    go true b z l s e = absurd cc
    go false true true true s e = absurd cc
    go false true true false s e = absurd cc
    go false true false l true e = e
    go false true false l false e = absurd cc
    go false false z l s e = e

some_eq : (f g : Found) → ◌≡◌ {A = Answer} (Ok (Some g)) (Ok (Some f)) → f ≡ g
some_eq f g e = cc

bounds_ahead : (at z n : ℕ) → n ≡ at + 16 + z → 0 < z → at + 16 < n
bounds_ahead at z n e h = omega arith

bounds_within : (at z n l d : ℕ) → n ≡ at + 16 + z → d ≡ l - at → at ≤ l → 16 + z ≤ d → n ≤ l
bounds_within at z n l d e f h i = omega arith

-- what is known of an entry that was found
pub record Entered (v : Service) (code : Code) (s : List ℕ) (at : ℕ) (f : Found) : Type 0 where
  pub low : 12 ≤ at
  pub tests : Passed (entry_tests v code at (drop at s))
  pub is : f ≡ found_of code at (drop at s)
  pub ahead : at + 16 < f.next
  pub within : f.next ≤ length s

pub entered : (v : Service) (shares : Bool) (code : Code) (s : List ℕ) (at : ℕ) (f : Found) → inside_by v shares code s at ≡ Ok (Some f) → Entered v code s at f
entered v shares code s at f e =
    let a = passed ((leb 12 at && leb at (length s), PastEnd at) ∷ []) (of_rest_by v shares code (length s) at (drop at s)) (Some f) e in
    let b = passed (entry_tests v code at (drop at s)) (Ok (Some (found_of code at (drop at s)))) (Some f) (rest_found v shares code (length s) at (drop at s) f a.1) in
    let i = some_eq f (found_of code at (drop at s)) b.1 in
    let w = and_parts (leb 12 at) (leb at (length s)) a.0.0 in
    let l : length (drop at s) ≡ length s - at = length-drop at s in
    let low : 12 ≤ at = leb-true _ _ w.0 in
    let high : at ≤ length s = leb-true _ _ w.1 in
    let some : 0 < data_length (drop at s) = ltb-true _ _ b.0.1.0 in
    let fits : 16 + data_length (drop at s) ≤ length (drop at s) = leb-true _ _ b.0.1.1.0 in
    let n : f.next ≡ at + 16 + data_length (drop at s) = ap (λ (x : Found). x.next) i in
    record { low = low; tests = b.0; is = i; ahead = bounds_ahead at (data_length (drop at s)) f.next n some; within = bounds_within at (data_length (drop at s)) f.next (length s) (length (drop at s)) n l high fits }

-- the kind accepts it
pub entered_accepted : (services : Services) (code : Code) (s : List ℕ) (at : ℕ) (f : Found) → Entered (services code) code s at f
    → is_ok (checked_by (services f.entry.code) f.entry.flags f.entry.bytes) ≡ true
entered_accepted services code s at f i =
    subst (λ (g : Found). is_ok (checked_by (services g.entry.code) g.entry.flags g.entry.bytes) ≡ true) (sym i.is) i.tests.1.1.1.1.0

onward_same : (a : Answer) (g h : ℕ → Entries) → ((f : Found) → a ≡ Ok (Some f) → g f.next ≡ h f.next) → onward a g ≡ onward a h
onward_same (Err w) g h e = refl
onward_same (Ok None) g h e = refl
onward_same (Ok (Some f)) g h e = ap (before f.entry) (e f refl)

module _ (v : Service) (shares : Bool) (code : Code) (s : List ℕ) where
  skip : (k n : ℕ) → walked_by v shares code s k n ≡ walked_by v shares code s 0 (n - k)
  skip zero n = let z : n - 0 ≡ n = omega arith in rw z
  skip (suc k) zero = let z : 0 - suc k ≡ 0 = omega arith in rw z
  skip (suc k) (suc n) = let z : suc n - suc k ≡ n - k = omega arith in rw z (skip k n)

  lengths : (at n next l : ℕ) → at + suc n ≡ l → at + 16 < next → next ≤ l → n - (next - (at + 1)) ≡ l - next
  lengths at n next l e h i = omega arith

  ends : 12 ≤ length s → inside_by v shares code s (length s) ≡ Ok None
  ends h = let l = length-drop (length s) s in grind (arith, nat_tests)

  walks_on : (n at : ℕ) → at + n ≡ length s → 12 ≤ at → walked_by v shares code s 0 n ≡ entries_by v shares code s at
  walks_on zero at e h =
      let z : at ≡ length s = omega arith in
      ap (λ a. onward a (λ next. walked_by v shares code s 0 (length s - next))) (sym (ends (omega arith))) ∙ ap (entries_by v shares code s) (sym z)
  walks_on (suc n) at e h =
      let z : length s - suc n ≡ at = omega arith in
      let y : length s - n ≡ at + 1 = omega arith in
      ap (λ a. onward (inside_by v shares code s a) (λ next. walked_by v shares code s (next - (length s - n)) n)) z
      ∙ ap (λ b. onward (inside_by v shares code s at) (λ next. walked_by v shares code s (next - b) n)) y
      ∙ onward_same (inside_by v shares code s at) (λ next. walked_by v shares code s (next - (at + 1)) n) (λ next. walked_by v shares code s 0 (length s - next))
      (λ f q. let i = entered v shares code s at f q in skip (f.next - (at + 1)) n ∙ ap (walked_by v shares code s 0) (lengths at n f.next (length s) e i.ahead i.within))

  -- an offset's entries are the one there and those from the next offset on
  pub entries_on : (at : ℕ) → entries_by v shares code s at ≡ onward (inside_by v shares code s at) (entries_by v shares code s)
  entries_on at =
      onward_same (inside_by v shares code s at) (λ next. walked_by v shares code s 0 (length s - next)) (entries_by v shares code s)
      (λ f q. let i = entered v shares code s at f q in walks_on (length s - f.next) f.next (omega (arith, i.within)) (omega (arith, i.low, i.ahead)))

  -- one entry further
  pub further : (at : ℕ) (f : Found) → inside_by v shares code s at ≡ Ok (Some f) → entries_by v shares code s at ≡ before f.entry (entries_by v shares code s f.next)
  further at f e = entries_on at ∙ ap (λ a. onward a (entries_by v shares code s)) e

pub counted_more : (n : ℕ) (e : Entry) (es : Entries) → counted n (before e es) ≡ counted (n + 1) es
counted_more n e (Ok es) = let z : n + suc (length es) ≡ n + 1 + length es = omega arith in ap Ok z
counted_more n e (Err w) = refl

pub counted_err : (n : ℕ) (es : Entries) (w : Refusal) → Err w ≡ counted n es → es ≡ Err w
counted_err n (Ok es) w e = absurd cc
counted_err n (Err v) w e = let q : v ≡ w = cc in ap Err q

-- a row of tests that passes, passes for every offset
tests_onward : (services : Services) (s : List ℕ) (ts : List (Bool × Refusal)) (at : ℕ)
    → tested ts (entries_from (services (code_of s)) (code_of s) s at)
    ≡ onward (tested ts (inside (services (code_of s)) (code_of s) s at)) (λ next. tested ts (entries_from (services (code_of s)) (code_of s) s next))
tests_onward services s [] at = let v = services (code_of s) in entries_on v (shares_in v) (code_of s) s at
tests_onward services s ((true, w) ∷ ts) at = tests_onward services s ts at
tests_onward services s ((false, w) ∷ ts) at = refl

pub by_reading : ByReading
by_reading services s = (refl, tests_onward services s (head_tests services None s))

-- after the head's tests comes what its head gives; a head that is refused refuses all
pub by_head : {A : Type 0} (services : Services) (stream : Option Stream) (s : List ℕ) (next : Head → Result A Refusal) (head : Head)
    → Ok head ≡ head_reading services stream s → next head ≡ tested (head_tests services stream s) (next (head_of services s))
by_head services stream s next head e =
    let t = tested_ok (head_tests services stream s) head (head_of services s) (next (head_of services s)) e in
    ap next t.1 ∙ sym t.0

-- the same of a packet that was opened
pub by_packet : {R A : Type 0} (services : R → Services) (registry : R) (stream : Option Stream) (s : List ℕ) (next : Services → Head → List ℕ → Result A Refusal) (packet : Packet R)
    → Ok packet.head ≡ head_reading (services registry) stream s → (packet.registry.now ≡ registry) × (packet.bytes.now ≡ s)
    → next (services packet.registry.now) packet.head packet.bytes.now
    ≡ tested (head_tests (services registry) stream s) (next (services registry) (head_of (services registry) s) s)
by_packet services registry stream s next packet e same =
    ap₂ (λ r b. next (services r) packet.head b) same.0 same.1 ∙ by_head (services registry) stream s (λ head. next (services registry) head s) packet.head e

pub no_head : {A : Type 0} (services : Services) (stream : Option Stream) (s : List ℕ) (r : Result A Refusal) (w : Refusal)
    → Err w ≡ head_reading services stream s → Err w ≡ tested (head_tests services stream s) r
no_head services stream s r w e = tested_err (head_tests services stream s) w (head_of services s) r e

-- what is known of a step that gave an entry
pub record Stepped {R : Type 0} (services : R → Services) (s : PacketEntries R) (e : Entry) (t : PacketEntries R) : Type 0 where
  pub packet : t.packet ≡ s.packet
  pub rest : left services s ≡ before e (left services t)
  pub fewer : steps_left t + 16 < steps_left s
  pub accepted : is_ok (checked_by (services s.packet.registry.now e.code) e.flags e.bytes) ≡ true

module _ {R : Type 0} (services : R → Services) (s : PacketEntries R) where
  found_from : (f : Found) (packet : Packet R) (from : Option ℕ) → read_from services packet from ≡ Ok (Some f)
      → (entries_left services packet from ≡ before f.entry (entries_left services packet (Some f.next)))
      × (steps_from (length packet.bytes.now) (Some f.next) + 16 < steps_from (length packet.bytes.now) from)
      × (is_ok (checked_by (services packet.registry.now f.entry.code) f.entry.flags f.entry.bytes) ≡ true)
  found_from f packet None e = absurd cc
  found_from f packet (Some at) e =
      let v = services packet.registry.now packet.head.code in
      let i = entered v packet.head.shares packet.head.code packet.bytes.now at f e in (
        further v packet.head.shares packet.head.code packet.bytes.now at f e,
        omega (arith, i.ahead, i.within),
        entered_accepted (services packet.registry.now) packet.head.code packet.bytes.now at f i,
      )

  pub step_found : (f : Found) (t : PacketEntries R) → read_from services s.packet s.next ≡ Ok (Some f) → t.next ≡ Some f.next → t.packet ≡ s.packet → Stepped services s f.entry t
  step_found f t e n p =
      let o = found_from f s.packet s.next e in
      let few : steps_from (length s.packet.bytes.now) (Some f.next) ≡ steps_left t = ap₂ (λ (q : Packet R) m. steps_from (length q.bytes.now) m) (sym p) (sym n) in
      record {
        packet = p;
        rest = o.0 ∙ ap (before f.entry) (ap₂ (entries_left services) (sym p) (sym n));
        fewer = subst (λ k. k + 16 < steps_left s) few o.1;
        accepted = o.2;
      }

  pub step_ok : (given : Result EntryView Refusal) (e : EntryView) (t : PacketEntries R) → Steps services s (Some given) t → given ≡ Ok e → Stepped services s (viewed e) t
  step_ok (Err w) e t step q = absurd cc
  step_ok (Ok d) e t step q =
      let same : d ≡ e = cc in
      subst (λ x. Stepped services s (viewed x) t) same (step_found (record { entry = viewed d; next = step.0.0 }) t step.0.1 step.0.2 step.1)
