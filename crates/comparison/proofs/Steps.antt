-- Comparing goes from entry to entry. Assumes nothing.
use Rattle.std.proofs.Common.{◌≡◌, ℕ, ◌+◌, ◌<◌, true, List, [], ◌∷◌, ◌++◌, length, drop, is_ok, Some, None, Ok, Err, Option, Result, ◌⊎◌, inl, inr, sym, refl, ap, ◌∙◌, subst, arith}
use Rattle.std.proofs.Math.Seq.{take-append_seam, drop-append_seam}
use Rattle.std.proofs.lemmas.List.{append_assoc, length-append, length-map}
use Rattle.std.specs.Result.{MatchResult, IsErrAnd, IfOk}
use Rattle.std.proofs.lemmas.Result.{IfOk-at_ok}
use Rattle.std.specs.Prelude.{min}
use Rattle.records.specs.Services.{Services}
use Rattle.records.specs.declared.refusal.Refusal.{Refusal}
use Rattle.tecmp.specs.Entries.{Entries, before, onward, entries, entries_by, counted}
use Rattle.tecmp.specs.Packets.{head_in, packet_entries}
use Rattle.tecmp.specs.Reading.{Entry, Answer, head_reading}
use Rattle.tecmp.specs.Steps.{Steps, steps_left, read_from, entries_left, left}
use Rattle.tecmp.specs.Views.{viewed}
use Rattle.tecmp.specs.declared.entries.PacketEntries.{PacketEntries}
use Rattle.tecmp.specs.declared.entry.EntryView.{EntryView}
use Rattle.tecmp.specs.declared.packet.Packet.{Packet}
use Rattle.tecmp.proofs.Walks.{by_packet, no_head, counted_err, entries_on, step_ok}
use Rattle.comparison.specs.Comparing.{DiffersIn, HeadsDiffer, Judges, listed, statements}
use Rattle.comparison.specs.Statements.{Accepted}
use Rattle.tecmp.specs.Statements.{Statement, stated}
use Rattle.comparison.specs.declared.packets.Field.{Field}
use Rattle.comparison.specs.declared.packets.Field.TheVariants.{Presence, Code, Interface, Time, Content}
use Rattle.comparison.specs.declared.packets.RefusedPacket.{RefusedPacket}
use Rattle.comparison.specs.declared.packets.Comparison.{Comparison}
use Rattle.comparison.specs.declared.packets.Comparison.TheVariants.{Same, Different}

-- a list does not differ from itself
unlike : (xs : List Statement) (field : Field) → HeadsDiffer xs xs field → ⊥
unlike [] field h = h
unlike (x ∷ xs) Presence h = h
unlike (x ∷ xs) Code h = h refl
unlike (x ∷ xs) Interface h = h.1 refl
unlike (x ∷ xs) Time h = h.2 refl
unlike (x ∷ xs) Content h = h.3 refl

-- after what agrees comes a difference
parts : (done xs ys : List Statement) (field : Field) → HeadsDiffer xs ys field → Judges (done ++ xs) (done ++ ys) (Different (length done) field)
parts done xs ys field h =
    let a = drop-append_seam done xs in
    let b = drop-append_seam done ys in (
      λ same. let q : ys ≡ xs = sym b ∙ ap (drop (length done)) (sym same) ∙ a in unlike xs field (subst (λ (zs : List Statement). HeadsDiffer xs zs field) q h),
      take-append_seam done xs ∙ sym (take-append_seam done ys),
      subst (λ (zs : List Statement). HeadsDiffer zs (drop (length done) (done ++ ys)) field) (sym a) (subst (λ (zs : List Statement). HeadsDiffer xs zs field) (sym b) h),
    )

-- where one of them has ended, the lengths tell whether both have
ends : (done xs ys : List Statement) (k l : ℕ) → ((xs ≡ []) ⊎ (ys ≡ [])) → length (done ++ xs) ≡ k → length (done ++ ys) ≡ l
    → (k ≡ l → Judges (done ++ xs) (done ++ ys) (Same k)) × ((k ≡ l → ⊥) → Judges (done ++ xs) (done ++ ys) (Different (min k l) Presence))
ends done [] [] k l ended e f = (λ same. (refl, e), λ apart. absurd (apart (sym e ∙ f)))
ends done [] (y ∷ ys) k l ended e f =
    let u = length-append done [] in
    let v = length-append done (y ∷ ys) in
    let n : length done ≡ min k l = omega arith in
    (λ same. absurd (omega arith), λ apart. subst (λ i. Judges (done ++ []) (done ++ (y ∷ ys)) (Different i Presence)) n (parts done [] (y ∷ ys) Presence refl))
ends done (x ∷ xs) [] k l ended e f =
    let u = length-append done (x ∷ xs) in
    let v = length-append done [] in
    let n : length done ≡ min k l = omega arith in
    (λ same. absurd (omega arith), λ apart. subst (λ i. Judges (done ++ (x ∷ xs)) (done ++ []) (Different i Presence)) n (parts done (x ∷ xs) [] Presence refl))
ends done (x ∷ xs) (y ∷ ys) k l (inl z) e f = cc
ends done (x ∷ xs) (y ∷ ys) k l (inr z) e f = cc

module _ (m : Services) where
  before_ok : (e : Entry) (r : Entries) → is_ok (before e r) ≡ true → (is_ok r ≡ true) × (listed m (before e r) ≡ stated m e ∷ listed m r)
  before_ok e (Ok es) h = (refl, refl)
  before_ok e (Err w) h = cc

  counted_all : (es : Entries) (k : ℕ) → Ok k ≡ counted 0 es → (is_ok es ≡ true) × (length (listed m es) ≡ k)
  counted_all (Ok es) k e = let same : k ≡ 0 + length es = cc in (refl, length-map es (stated m) ∙ omega arith)
  counted_all (Err w) k e = cc

-- a packet that was opened, and counted to its end
pub record Whole {R : Type 0} (services : R → Services) (registry : R) (s : List ℕ) (packet : Packet R) (k : ℕ) : Type 0 where
  pub by : packet.registry.now ≡ registry
  pub size : length packet.bytes.now ≡ length s
  pub same : packet_entries services packet 12 ≡ entries (services registry) None s
  pub ok : is_ok (entries (services registry) None s) ≡ true
  pub count : length (statements (services registry) s) ≡ k

-- what `map_err` made of a result, each refusal w of which became one of which Q w holds
abbrev pub Mapped : {T : Type 0} → (Refusal → RefusedPacket → Type 0) → Result T Refusal → Result T RefusedPacket → Type 0
Mapped Q r q = MatchResult r (λ x. q ≡ Ok x) (λ w. IsErrAnd q (Q w))

module _ (Q : Refusal → RefusedPacket → Type 0) where
  pub mapped_ok : {T : Type 0} (r : Result T Refusal) (q : Result T RefusedPacket) (x : T) → Mapped Q r q → q ≡ Ok x → r ≡ Ok x
  mapped_ok (Ok y) q x m e = let same : y ≡ x = cc in ap Ok same
  mapped_ok (Err w) (Ok y) x m e = absurd m
  mapped_ok (Err w) (Err d) x m e = cc

  mapped_err : {T : Type 0} (r : Result T Refusal) (q : Result T RefusedPacket) (d : RefusedPacket) → Mapped Q r q → q ≡ Err d → (w : Refusal) × (r ≡ Err w) × Q w d
  mapped_err (Ok y) q d m e = cc
  mapped_err (Err w) (Ok y) d m e = absurd m
  mapped_err (Err w) (Err v) d m e = let same : v ≡ d = cc in (w, refl, subst (Q w) same m)

-- a packet is opened, and then counted
module _ {R : Type 0} (services : R → Services) (registry : R) (s : List ℕ) (Q : Refusal → RefusedPacket → Type 0)
    (r : Result (Packet R) Refusal) (q : Result (Packet R) RefusedPacket)
    (head : head_in r ≡ head_reading (services registry) None s) (of : IfOk r (λ p. (p.registry.now ≡ registry) × (p.bytes.now ≡ s))) (m : Mapped Q r q) where
  pub not_opened : (d : RefusedPacket) → q ≡ Err d → (w : Refusal) × Q w d × (entries (services registry) None s ≡ Err w)
  not_opened d e =
      let i = mapped_err Q r q d m e in
      (i.0, i.2, sym (no_head (services registry) None s _ i.0 (ap head_in (sym i.1) ∙ head)))

  opened : (packet : Packet R) → q ≡ Ok packet → (packet.registry.now ≡ registry) × (packet.bytes.now ≡ s) × (packet_entries services packet 12 ≡ entries (services registry) None s)
  opened packet e =
      let i = mapped_ok Q r q packet m e in
      let same = IfOk-at_ok (λ p. (p.registry.now ≡ registry) × (p.bytes.now ≡ s)) i of in
      (same.0, same.1, by_packet services registry None s (λ m head bytes. entries_by (m head.code) head.shares head.code bytes 12) packet (ap head_in (sym i) ∙ head) same)

  module _ (packet : Packet R) (e : q ≡ Ok packet) (P : Refusal → RefusedPacket → Type 0) (t : Result ℕ Refusal) (u : Result ℕ RefusedPacket)
      (count : t ≡ counted 0 (packet_entries services packet 12)) (n : Mapped P t u) where
    pub not_counted : (d : RefusedPacket) → u ≡ Err d → (w : Refusal) × P w d × (entries (services registry) None s ≡ Err w)
    not_counted d f =
        let i = mapped_err P t u d n f in
        (i.0, i.2, sym (opened packet e).2 ∙ counted_err 0 (packet_entries services packet 12) i.0 (sym i.1 ∙ count))

    pub whole : (k : ℕ) → u ≡ Ok k → Whole services registry s packet k
    whole k f =
        let o = opened packet e in
        let c = counted_all (services registry) (entries (services registry) None s) k (sym (mapped_ok P t u k n f) ∙ count ∙ ap (counted 0) o.2) in
        record { by = o.0; size = ap length o.1; same = o.2; ok = c.0; count = c.1 }

-- these entries are what has been gone over, and then what is left
pub record Left {R : Type 0} (services : R → Services) (registry : R) (all done : List Statement) (s : PacketEntries R) : Type 0 where
  pub by : s.packet.registry.now ≡ registry
  pub ok : is_ok (left services s) ≡ true
  pub all_of : all ≡ done ++ listed (services registry) (left services s)

-- what is known of an entry that comes next
pub record Next {R : Type 0} (services : R → Services) (registry : R) (all done : List Statement) (s : PacketEntries R) (e : Entry) (t : PacketEntries R) : Type 0 where
  pub accepted : Accepted (services registry) e
  pub fewer : steps_left t < steps_left s
  pub here : (rest : List Statement) × (all ≡ done ++ (stated (services registry) e ∷ rest))
  pub after : Left services registry all (done ++ (stated (services registry) e ∷ [])) t

module _ {R : Type 0} (services : R → Services) (registry : R) where
  -- what is left is what is read next, and then what comes after it
  left_onward : (packet : Packet R) (from : Option ℕ) → entries_left services packet from ≡ onward (read_from services packet from) (packet_entries services packet)
  left_onward packet None = refl
  left_onward packet (Some at) = entries_on (services packet.registry.now packet.head.code) packet.head.shares packet.head.code packet.bytes.now at

  left_by : (s : PacketEntries R) (a : Answer) → read_from services s.packet s.next ≡ a → left services s ≡ onward a (packet_entries services s.packet)
  left_by s a e = left_onward s.packet s.next ∙ ap (λ b. onward b (packet_entries services s.packet)) e

  module _ (all done : List Statement) (s t : PacketEntries R) (so_far : Left services registry all done s) where
    ended : Steps services s None t → listed (services registry) (left services s) ≡ []
    ended step = ap (listed (services registry)) (left_by s _ step.0.0)

    pub next : (given : Result EntryView Refusal) (e : EntryView) → Steps services s (Some given) t → given ≡ Ok e → Next services registry all done s (viewed e) t
    next given e step q =
        let i = step_ok services s given e t step q in
        let m = services registry in
        let b = before_ok m (viewed e) (left services t) (ap is_ok (sym i.rest) ∙ so_far.ok) in
        let here = so_far.all_of ∙ ap (λ es. done ++ listed m es) i.rest ∙ ap (λ l. done ++ l) b.1 in
        record {
          fewer = omega (arith, i.fewer);
          accepted = subst (λ r. Accepted (services r) (viewed e)) so_far.by i.accepted;
          here = (listed m (left services t), here);
          after = record {
            by = ap (λ (p : Packet R). p.registry.now) i.packet ∙ so_far.by;
            ok = b.0;
            all_of = here ∙ sym (append_assoc done (stated m (viewed e) ∷ []) (listed m (left services t)));
          };
        }

  starts : (s : List ℕ) (packet : Packet R) (k : ℕ) (at : PacketEntries R) → Whole services registry s packet k → at ≡ record { packet = packet; next = Some 12 }
      → Left services registry (statements (services registry) s) [] at
  starts s packet k at w begins =
      let m = services registry in
      subst (Left services registry (statements m s) []) (sym begins) (record { by = w.by; ok = ap is_ok w.same ∙ w.ok; all_of = ap (listed m) (sym w.same) })

-- so many entries of each packet were gone over, and agree
pub record Agree {R : Type 0} (services : R → Services) (registry : R) (xs ys : List Statement) (s t : PacketEntries R) (n : ℕ) : Type 0 where
  pub done : List Statement
  pub count : length done ≡ n
  pub first : Left services registry xs done s
  pub second : Left services registry ys done t

judged : (xs ys zs ws : List Statement) (c : Comparison) → xs ≡ zs → ys ≡ ws → Judges zs ws c → Judges xs ys c
judged xs ys zs ws c e f h = subst (λ (x : List Statement). Judges x ys c) (sym e) (subst (λ (y : List Statement). Judges zs y c) (sym f) h)

module _ {R : Type 0} (services : R → Services) (registry : R) (xs ys : List Statement) (s t : PacketEntries R) (n : ℕ) (agree : Agree services registry xs ys s t n) where
  pub one_more : (e f : Entry) (s' t' : PacketEntries R) (k : ℕ) → Next services registry xs agree.done s e s' → Next services registry ys agree.done t f t'
      → stated (services registry) e ≡ stated (services registry) f → k ≡ n + 1 → Agree services registry xs ys s' t' k
  one_more e f s' t' k first second same further = record {
    done = agree.done ++ (stated (services registry) e ∷ []);
    count = length-append agree.done (stated (services registry) e ∷ []) ∙ ap (λ i. i + 1) agree.count ∙ sym further;
    first = first.after;
    second = subst (λ x. Left services registry ys (agree.done ++ (x ∷ [])) t') (sym same) second.after;
  }

  pub differ : (e f : Entry) (s' t' : PacketEntries R) (k : ℕ) (field : Field) → Next services registry xs agree.done s e s' → Next services registry ys agree.done t f t'
      → DiffersIn (stated (services registry) e) (stated (services registry) f) field → k ≡ n → Judges xs ys (Different k field)
  differ e f s' t' k field first second h here =
      subst (λ i. Judges xs ys (Different i field)) (agree.count ∙ sym here) (judged xs ys _ _ (Different (length agree.done) field) first.here.1 second.here.1
      (parts agree.done (stated (services registry) e ∷ first.here.0) (stated (services registry) f ∷ second.here.0) field h))

  pub at_end : (k l : ℕ) → ((u : PacketEntries R) × Steps services s None u) ⊎ ((u : PacketEntries R) × Steps services t None u) → length xs ≡ k → length ys ≡ l
      → (k ≡ l → Judges xs ys (Same k)) × ((k ≡ l → ⊥) → Judges xs ys (Different (min k l) Presence))
  at_end k l none e f =
      let first = agree.first.all_of in
      let second = agree.second.all_of in
      let which : (listed (services registry) (left services s) ≡ []) ⊎ (listed (services registry) (left services t) ≡ []) =
      elim none [ inl u ↦ inl (ended services registry xs agree.done s u.0 agree.first u.1) | inr u ↦ inr (ended services registry ys agree.done t u.0 agree.second u.1) ] in
      let j = ends agree.done _ _ k l which (ap length (sym first) ∙ e) (ap length (sym second) ∙ f) in
      (λ same. judged xs ys _ _ (Same k) first second (j.0 same), λ apart. judged xs ys _ _ (Different (min k l) Presence) first second (j.1 apart))

-- no entry of them has been gone over yet
pub none_yet : {R : Type 0} (services : R → Services) (registry : R) (a b : List ℕ) (p q : Packet R) (k l : ℕ) (s t : PacketEntries R) (n : ℕ)
    → Whole services registry a p k → Whole services registry b q l → s ≡ record { packet = p; next = Some 12 } → t ≡ record { packet = q; next = Some 12 } → n ≡ 0
    → Agree services registry (statements (services registry) a) (statements (services registry) b) s t n
none_yet services registry a b p q k l s t n first second e f z =
    record { done = []; count = sym z; first = starts services registry a p k s first e; second = starts services registry b q l t second f }
