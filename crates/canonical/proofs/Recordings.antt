-- What is read back of a recording are entries that a copy of its stream accepts. Assumes nothing.
use Rattle.std.proofs.Common.{◌≡◌, ℕ, zero, suc, ◌+◌, ◌<◌, Bool, true, false, not, ◌||◌, ◌&&◌, eqb, ltb, leb, List, [], ◌∷◌, ◌++◌, map, length, take, drop, Some, Option, Ok, Err, cond, sym, refl, ap, ◌∙◌, subst, arith}
use Rattle.std.specs.List.{AllByRecursion}
use Rattle.std.proofs.ByRecursion.{All-map, All-weaker, All-append, All-take, All-drop}
use Rattle.std.proofs.lemmas.List.{length-append}
use Rattle.std.proofs.lemmas.Bool.{and_parts, ltb-true, leb-true, eqb-true}
use Rattle.records.specs.Services.{Services}
use Rattle.records.specs.Tests.{Passed, and_then}
use Rattle.records.specs.Verdicts.{Bytes}
use Rattle.records.specs.declared.code.MessageType.TheVariants.{LoggingStream, ReplayData}
use Rattle.records.specs.declared.refusal.Refusal.TheVariants.{MalformedCopy, OutputLength}
use Rattle.records.proofs.Tested.{passed}
use Rattle.tecmp.specs.Entries.{Entries, entries, entries_from}
use Rattle.tecmp.specs.Heads.{read_of}
use Rattle.tecmp.specs.Layout.{message_type, device_id, code_of}
use Rattle.tecmp.specs.Reading.{Entry, head_tests, is_logged}
use Rattle.tecmp.specs.declared.head.Stream.{Stream}
use Rattle.copy_format.specs.Cutting.{flat}
use Rattle.copy_format.specs.Image.{filling}
use Rattle.copy_format.specs.ReadingBack.{entry_moved, all_moved, Part, packet_of, closing, malformed, part_of, Packets, with_packet, first_packet, stream_in, onward, packets_in, packets_from, Contents, entries_of, read_back}
use Rattle.copy_format.proofs.PacketsRead.{Narrow}
use Rattle.copy_format.proofs.Words.{by_words}
use Rattle.canonical.proofs.Accepted.{Accepted}
use Rattle.canonical.proofs.Taken.{then_ok, taken_accepted}

moved_accepted : (services : Services) (stream : Stream) (base : ℕ) (e : Entry) → Accepted services stream e → Accepted services stream (entry_moved base e)
moved_accepted services stream base e a = record {
  of_stream = a.of_stream;
  type_fits = a.type_fits;
  interface_fits = a.interface_fits;
  time_fits = a.time_fits;
  time_whole = a.time_whole;
  timed = a.timed;
  flags_fit = a.flags_fit;
  are_bytes = a.are_bytes;
  passes = a.passes;
}

all_moved_ok : (base : ℕ) (r : Entries) (es : List Entry) → all_moved base r ≡ Ok es → (fs : List Entry) × (r ≡ Ok fs) × (map (entry_moved base) fs ≡ es)
all_moved_ok base (Ok fs) es e = (fs, refl, cc)
all_moved_ok base (Err w) es e = cc

with_packet_ok : (es : List Entry) (r : Packets) (ps : List (List Entry)) → with_packet es r ≡ Ok ps → (qs : List (List Entry)) × (r ≡ Ok qs) × (es ∷ qs ≡ ps)
with_packet_ok es (Ok qs) ps e = (qs, refl, cc)
with_packet_ok es (Err w) ps e = cc

module _ (services : Services) (stream : Stream) (s : List ℕ) (b : Bytes s) where
  abbrev Good : List (List Entry) → ℕ → Type 0
  Good ps count = AllByRecursion (Accepted services stream) (flat ps) × (0 < count + length (flat ps))

  packets_good : (n at count : ℕ) (ps : List (List Entry)) → packets_in services stream s n at count ≡ Ok ps → Good ps count
  packets_good zero at count ps e = cc
  packets_good (suc n) at count ps e = go (part_of (drop at s)) e (λ next c qs q. packets_good n next c qs q)
    where
      go : (p : Part) → onward services stream s p at count (packets_in services stream s n) ≡ Ok ps
          → ((next c : ℕ) (qs : List (List Entry)) → packets_in services stream s n next c ≡ Ok qs → Good qs c) → Good ps count
      go malformed q further = cc
      go (closing number) q further =
          let p = passed ((eqb (length s) (at + 4) && (eqb number count && ltb 0 number), MalformedCopy) ∷ []) (Ok []) ps q in
          let none : [] ≡ ps = let z = p.1 in cc in
          let both = and_parts (eqb number count) (ltb 0 number) (and_parts (eqb (length s) (at + 4)) (eqb number count && ltb 0 number) p.0.0).1 in
          let same : number ≡ count = eqb-true _ _ both.0 in
          let some : 0 < number = ltb-true _ _ both.1 in
          subst (λ qs. Good qs count) none (tt, omega arith)
      go (packet_of size) q further =
          let packet : List ℕ = take size (drop (at + 4) s) in
          let r = then_ok (all_moved (at + 4) (entries services (Some stream) packet)) (λ es. with_packet es (packets_in services stream s n (at + 4 + (size + filling size)) (count + length es))) ps q in
          let es : List Entry = r.0 in
          let m = all_moved_ok (at + 4) (entries services (Some stream) packet) es r.1 in
          let w = with_packet_ok es (packets_in services stream s n (at + 4 + (size + filling size)) (count + length es)) ps r.2 in
          let bp : Bytes packet = All-take (λ x. x < 256) size (drop (at + 4) s) (All-drop (λ x. x < 256) (at + 4) s b) in
          let own : AllByRecursion (Accepted services stream) es =
          subst (AllByRecursion (Accepted services stream)) m.2
          (All-map (Accepted services stream) (entry_moved (at + 4)) m.0
          (All-weaker (Accepted services stream) (λ f. Accepted services stream (entry_moved (at + 4) f)) (λ f a. moved_accepted services stream (at + 4) f a) m.0
          (taken_accepted services stream packet bp m.0 m.1))) in
          let rest = further (at + 4 + (size + filling size)) (count + length es) w.0 w.1 in
          let l : length (es ++ flat w.0) ≡ length es + length (flat w.0) = length-append es (flat w.0) in
          subst (λ qs. Good qs count) w.2 (All-append (Accepted services stream) es (flat w.0) own rest.0, omega (arith, rest.1))

-- the stream of a packet whose head passes is one that a copy can be of
narrow_head : (services : Services) (p : List ℕ) (o : Option Stream) → Passed (head_tests services o p) → Narrow (message_type p) (read_of (message_type p) (device_id p))
narrow_head services p o h = go (is_logged p) refl
  where
    go : (b : Bool) → is_logged p ≡ b → Narrow (cond b LoggingStream ReplayData) (read_of (cond b LoggingStream ReplayData) (device_id p))
    go true e =
        let t : (not (is_logged p) || leb (device_id p) 255) ≡ true = h.1.1.1.1.1.0 in
        leb-true _ _ (ap (λ b. not b || leb (device_id p) 255) (sym e) ∙ t)
    go false e = refl

first_narrow : (services : Services) (stream : Stream) (s : List ℕ) (rest : ℕ → ℕ → Packets) (ps : List (List Entry)) (p : Part) → onward services stream s p 0 0 rest ≡ Ok ps
    → Narrow (message_type (first_packet p s)) (read_of (message_type (first_packet p s)) (device_id (first_packet p s)))
first_narrow services stream s rest ps malformed q = refl
first_narrow services stream s rest ps (closing number) q = refl
first_narrow services stream s rest ps (packet_of size) q =
    let packet : List ℕ = take size (drop 4 s) in
    let r = then_ok (all_moved 4 (entries services (Some stream) packet)) (λ es. with_packet es (rest (4 + (size + filling size)) (0 + length es))) ps q in
    let m = all_moved_ok 4 (entries services (Some stream) packet) r.0 r.1 in
    narrow_head services packet (Some stream) (passed (head_tests services (Some stream) packet) (entries_from (services (code_of packet)) (code_of packet) packet 12) m.0 m.1).0

module _ (services : Services) (s : List ℕ) (b : Bytes s) (k : Contents) (ok : read_back services s ≡ Ok k) where
  read : (stream_in s ≡ k.stream) × (packets_from services (stream_in s) s 0 0 ≡ Ok k.packets)
  read =
      let p = passed ((leb (length s) 16777216, OutputLength) ∷ []) (and_then (packets_from services (stream_in s) s 0 0) (λ ps. Ok (record { stream = stream_in s; packets = ps }))) k ok in
      let r = then_ok (packets_from services (stream_in s) s 0 0) (λ ps. Ok (record { stream = stream_in s; packets = ps })) k p.1 in
      let same : record { stream = stream_in s; packets = r.0 } ≡ k = let z = r.2 in cc in
      (ap (λ (x : Contents). x.stream) same, r.1 ∙ ap (λ (x : Contents). Ok x.packets) same)

  pub recording_accepted : AllByRecursion (Accepted services k.stream) (entries_of k)
  recording_accepted = subst (λ (t : Stream). AllByRecursion (Accepted services t) (entries_of k)) read.0 (packets_good services (stream_in s) s b (length s) 0 0 k.packets read.1).0

  pub recording_some : 0 < length (entries_of k)
  recording_some = let p = (packets_good services (stream_in s) s b (length s) 0 0 k.packets read.1).1 in omega arith

  pub recording_narrow : Narrow k.stream.message_type k.stream.«module»
  recording_narrow =
      subst (λ (t : Stream). Narrow t.message_type t.«module») read.0
      (first_narrow services (stream_in s) s (packets_from services (stream_in s) s) k.packets (part_of s) (sym (by_words services (stream_in s) s 0 0) ∙ read.1))
