-- Whatever the calls were, a copy stands for the entries that it has accepted, and closing it writes their image. Assumes nothing.
use Rattle.std.proofs.Common.{◌≡◌, ℕ, ◌+◌, ◌≤◌, eqb, ltb, leb, List, [], ◌∷◌, ◌++◌, map, length, take, Some, Ok, Err, Result, sym, refl, ap, ◌∙◌, subst, arith}
use Rattle.std.specs.List.{AllByRecursion}
use Rattle.std.proofs.lemmas.List.{append-nil, length-map}
use Rattle.std.proofs.lemmas.Bool.{leb-true}
use Rattle.records.specs.Codes.{type_of}
use Rattle.records.specs.Services.{Services, LawfulService}
use Rattle.records.specs.Tests.{tested}
use Rattle.records.specs.Verdicts.{Bytes}
use Rattle.records.specs.declared.code.Code.{Code}
use Rattle.records.specs.declared.code.MessageType.{MessageType}
use Rattle.records.specs.declared.refusal.Refusal.{Refusal}
use Rattle.records.specs.declared.refusal.Refusal.TheVariants.{OutputLength, NoEntries, OutputFull}
use Rattle.records.proofs.Tested.{passed}
use Rattle.tecmp.specs.Entries.{entries}
use Rattle.tecmp.specs.Reading.{Entry}
use Rattle.copy_format.specs.Cutting.{flat}
use Rattle.copy_format.specs.Image.{packets_of, body, word}
use Rattle.copy_format.specs.Items.{item_of}
use Rattle.copy_format.proofs.Cuts.{flat-cut}
use Rattle.copy_format.proofs.Lengths.{length-word, length-copy}
use Rattle.canonical.specs.Calls.{stream_of, Addition, Typed, entry_of, reaching, Leaves, add_tests, room, taken, listed, entries_in, closing, Closes}
use Rattle.canonical.specs.Log.{Log, open_done, add, take_packet, close_refused, add_elsewhere, take_elsewhere, close_elsewhere, accepted_if, Faithful}
use Rattle.canonical.specs.States.{spliced, after_all, put_all}
use Rattle.canonical.specs.declared.state.Closed.{Closed}
use Rattle.canonical.specs.declared.state.State.{State}
use Rattle.canonical.proofs.Accepted.{Accepted, may_stand}
use Rattle.canonical.proofs.Growth.{holds_all}
use Rattle.canonical.proofs.Places.{take-spliced}
use Rattle.canonical.proofs.Ranges.{time_below, time_again}
use Rattle.canonical.proofs.Stands.{Stands, moved, stands_opened}
use Rattle.canonical.proofs.Taken.{then_ok, taken_accepted}

module _ (services : Services) (law : (code : Code) → LawfulService (services code)) where
  -- entries that are accepted and fit
  pub stands_all : (s : State) (out : List ℕ) (es new : List Entry) → Stands services s out es → AllByRecursion (Accepted services s.stream) new
      → (after_all services s.extent new).length + 4 ≤ s.capacity
      → Stands services (reaching s (after_all services s.extent new)) (put_all services s.stream s.extent new out) (es ++ new)
  stands_all s out es new st a f =
      let l : s.capacity ≡ length out = st.lent in
      let fits : (after_all services s.extent new).length + 4 ≤ length out = omega arith in
      let held = holds_all services law s.stream s.extent out es new st.holds a fits in
      record {
        lent = l ∙ sym held.0;
        narrow = st.narrow;
        own = st.own;
        holds = held.1;
      }

  added_accepted : (s : State) (a : Addition) (lent : ℕ) → Typed a → tested {A = Unit {0}} (add_tests services s (entry_of s.stream a) lent) (Ok tt) ≡ Ok tt
      → Accepted services s.stream (entry_of s.stream a) × ((after_all services s.extent (entry_of s.stream a ∷ [])).length + 4 ≤ s.capacity)
  added_accepted s a lent t e =
      let p = (passed (add_tests services s (entry_of s.stream a) lent) (Ok tt) tt e).0 in
      let type : MessageType = s.stream.message_type in (
        record {
          of_stream = refl;
          type_fits = t.type_fits;
          interface_fits = t.interface_fits;
          time_fits = time_below type a.time_word t.time_fits;
          time_whole = time_again type a.time_word;
          timed = p.1.1.1.0;
          flags_fit = t.flags_fit;
          are_bytes = t.are_bytes;
          passes = p.1.1.1.1.1.0;
        },
        leb-true _ _ p.1.1.1.1.1.1.0,
      )

  stands_left : (s s' : State) (out out' : List ℕ) (es es' new : List Entry) (r : Result (Unit {0}) Refusal) → Stands services s out es
      → (r ≡ Ok tt → AllByRecursion (Accepted services s.stream) new × ((after_all services s.extent new).length + 4 ≤ s.capacity))
      → Leaves services s new out r s' out' → es' ≡ es ++ accepted_if r new → Stands services s' out' es'
  stands_left s s' out out' es es' new (Ok tt) st h l q =
      let a = h refl in
      moved services _ s' _ out' _ es' l.0 l.1 q (stands_all s out es new st a.0 a.1)
  stands_left s s' out out' es es' new (Err w) st h l q = moved services s s' out out' es es' l.0 l.1 (q ∙ append-nil es) st

  taken_fits : (s : State) (packet : List ℕ) (lent : ℕ) → Bytes packet → taken services s packet lent ≡ Ok tt
      → AllByRecursion (Accepted services s.stream) (entries_in services s packet) × ((after_all services s.extent (entries_in services s packet)).length + 4 ≤ s.capacity)
  taken_fits s packet lent b e =
      let p = (passed ((eqb lent s.capacity, OutputLength) ∷ []) _ tt e).1 in
      let t = then_ok (entries services (Some s.stream) packet) (room services s) tt p in
      let es : List Entry = t.0 in
      let q = (passed ((leb ((after_all services s.extent es).length + 4) s.capacity, OutputFull) ∷ []) (Ok tt) tt t.2).0.0 in
      subst (λ fs. AllByRecursion (Accepted services s.stream) fs × ((after_all services s.extent fs).length + 4 ≤ s.capacity)) (ap listed (sym t.1))
      (taken_accepted services s.stream packet b es t.1, leb-true _ _ q)

  pub logged : {s : State} {out : List ℕ} {es : List Entry} → Log services s out es → Stands services s out es
  logged (open_done {s = s} {out = out} {es = es} direction device o z) =
      moved services s s out out [] es refl refl z (stands_opened services (type_of direction) device s out (stream_of (type_of direction) device) refl o)
  logged (add {s = s} {s' = s'} {out = out} {out' = out'} {es = es} {es' = es'} log a r t c z) =
      stands_left s s' out out' es es' (entry_of s.stream a ∷ []) r (logged log) (λ q. let i = added_accepted s a (length out) t (sym c.0 ∙ q) in ((i.0, tt), i.1)) c.1 z
  logged (take_packet {s = s} {s' = s'} {out = out} {out' = out'} {es = es} {es' = es'} log packet r b c z) =
      stands_left s s' out out' es es' (entries_in services s packet) r (logged log) (λ q. taken_fits s packet (length out) b (sym c.0 ∙ q)) c.1 z
  logged (close_refused {s = s} {out = out} {out' = out'} {es = es} log w c) = moved services s s out out' es es refl c.1 refl (logged log)
  logged (add_elsewhere {s = s} {s' = s'} {out = out} {es = es} log a other other' c) = moved services s s' out out es es c.1.0 refl refl (logged log)
  logged (take_elsewhere {s = s} {s' = s'} {out = out} {es = es} log packet other other' c) = moved services s s' out out es es c.1.0 refl refl (logged log)
  logged (close_elsewhere log other other' c) = logged log

  -- the closing word stands after the packets
  closed_bytes : (s : State) (out : List ℕ) (es : List Entry) → Stands services s out es
      → take (s.extent.length + 4) (spliced out s.extent.length (word 2 s.extent.entries)) ≡ body s.stream 1 (packets_of services s.stream es) ++ word 2 s.extent.entries
  closed_bytes s out es st =
      let h = st.holds in
      let w : List ℕ = word 2 s.extent.entries in
      let l : length w ≡ 4 = length-word 2 s.extent.entries in
      let f : s.extent.length + 4 ≤ length out = h.fits in
      ap (λ n. take (s.extent.length + n) (spliced out s.extent.length w)) (sym l) ∙ take-spliced out w s.extent.length (omega arith) ∙ ap (λ b. b ++ w) h.written

  counted : (s : State) (out : List ℕ) (es : List Entry) → Stands services s out es → s.extent.entries ≡ length (flat (packets_of services s.stream es))
  counted s out es st = st.holds.entries_are ∙ sym (ap length (flat-cut (may_stand services s.stream) (map (item_of services) es)) ∙ length-map es (item_of services))

  pub faithful_closing : (s : State) (out : List ℕ) (out' : List ℕ) (es : List Entry) → Stands services s out es → out' ≡ spliced out s.extent.length (word 2 s.extent.entries)
      → Faithful services s es (closing s) out'
  faithful_closing s out out' es st w = record {
    bytes = ap (take (s.extent.length + 4)) w ∙ closed_bytes s out es st ∙ ap (λ n. body s.stream 1 (packets_of services s.stream es) ++ word 2 n) (counted s out es st);
    size = ap (λ n. n + 4) st.holds.reaches ∙ sym (length-copy s.stream (packets_of services s.stream es));
    entries = st.holds.entries_are;
    packets = st.holds.packets_are;
  }

-- a closed copy is the image of what it has accepted
pub faithful : (services : Services) → ((code : Code) → LawfulService (services code)) → (s : State) (out : List ℕ) (c : Closed) (out' : List ℕ)
    → Closes s out (Ok c) out' → (es : List Entry) → Log services s out es → Faithful services s es c out'
faithful services law s out c out' r es log =
    let p = (passed ((eqb (length out) s.capacity, OutputLength) ∷ (ltb 0 s.extent.entries, NoEntries) ∷ []) (Ok (closing s)) c (sym r.0)).1 in
    let i : closing s ≡ c = cc in
    subst (λ d. Faithful services s es d out') i (faithful_closing services law s out out' es (logged services law log) r.1)
