-- Opening the packet that begins with a word, in a copy that has passed. Assumes nothing.
use Rattle.std.proofs.Common.{◌≡◌, ℕ, ◌+◌, ◌<◌, ◌≤◌, Bool, true, false, cond, ◌&&◌, eqb, leb, List, [], ◌∷◌, ◌++◌, map, length, take, drop, is_ok, Some, None, Ok, Err, sym, refl, ap, ◌∙◌, subst, arith}
use Rattle.std.proofs.lemmas.List.{length-map, length-drop}
use Rattle.std.proofs.lemmas.Bool.{ne_eqb, leb-true}
use Rattle.records.specs.Services.{Services, Service, shares_in}
use Rattle.records.specs.Tests.{and_then}
use Rattle.records.specs.declared.code.Code.{Code}
use Rattle.records.specs.declared.refusal.Refusal.{Refusal}
use Rattle.records.specs.declared.refusal.Refusal.TheVariants.{PastEnd}
use Rattle.records.proofs.Tested.{passed}
use Rattle.tecmp.specs.Entries.{Entries, onward, entries_by, entries_from, entries}
use Rattle.tecmp.specs.Layout.{code_of}
use Rattle.tecmp.specs.Packets.{packet_entries}
use Rattle.tecmp.specs.Reading.{Entry, Answer, head_tests, head_reading, entry_tests, found_of, here, of_rest_by, inside_by}
use Rattle.tecmp.specs.declared.head.Stream.{Stream}
use Rattle.tecmp.specs.declared.packet.Packet.{Packet}
use Rattle.tecmp.proofs.Walks.{by_packet, entries_on}
use Rattle.copy_format.specs.ReadingBack.{entry_moved, all_moved, part_of, packet_of, Packets, with_packet, packets_from}
use Rattle.copy_reader.specs.Cursors.{listed, flattened, entries_left}
use Rattle.copy_reader.specs.declared.cursor.Place.{Place}
use Rattle.copy_reader.proofs.Bounds.{Bounded, bounded}
use Rattle.copy_reader.proofs.Handing.{before_ok}
use Rattle.copy_reader.proofs.Passes.{after, packet_here}

listed_ok : (all : Entries) → is_ok all ≡ true → all ≡ Ok (listed all)
listed_ok (Ok es) h = refl
listed_ok (Err w) h = absurd cc

-- a packet that is long enough for an entry does not end before its first one
module _ (v : Service) (shares : Bool) (code : Code) (s : List ℕ) (long : 28 ≤ length s) where
  not_at_end : inside_by v shares code s 12 ≡ Ok None → ⊥
  not_at_end e =
      let r = passed ((leb 12 12 && leb 12 (length s), PastEnd 12) ∷ []) (of_rest_by v shares code (length s) 12 (drop 12 s)) None e in
      let l = length-drop 12 s in
      let some : eqb (length (drop 12 s)) 0 ≡ false = ne_eqb _ _ (λ z. absurd (omega arith)) in
      let h : here v code 12 (drop 12 s) ≡ Ok None = subst (λ b. cond b (Ok None) (here v code 12 (drop 12 s)) ≡ Ok None) some r.1 in
      let p = passed (entry_tests v code 12 (drop 12 s)) (Ok (Some (found_of code 12 (drop 12 s)))) None h in
      absurd (let q = p.1 in cc)

  first_entry : is_ok (entries_by v shares code s 12) ≡ true → 0 < length (listed (entries_by v shares code s 12))
  first_entry ok =
      subst (λ (es : Entries). 0 < length (listed es)) (sym (entries_on v shares code s 12)) (go (inside_by v shares code s 12) not_at_end (ap is_ok (sym (entries_on v shares code s 12)) ∙ ok))
    where
      go : (a : Answer) → (a ≡ Ok None → ⊥) → is_ok (onward a (entries_by v shares code s)) ≡ true → 0 < length (listed (onward a (entries_by v shares code s)))
      go (Err w) none ok = absurd cc
      go (Ok None) none ok = absurd (none refl)
      go (Ok (Some f)) none ok = let l = ap length (before_ok f.entry (entries_by v shares code s f.next) ok).1 in omega arith

some_entry : (services : Services) (stream : Stream) (s : List ℕ) → is_ok (entries services (Some stream) s) ≡ true → 0 < length (listed (entries services (Some stream) s))
some_entry services stream s ok =
    let es = listed (entries services (Some stream) s) in
    let p = passed (head_tests services (Some stream) s) (entries_from (services (code_of s)) (code_of s) s 12) es (listed_ok (entries services (Some stream) s) ok) in
    let long : 28 ≤ length s = leb-true _ _ p.0.0 in
    subst (λ (all : Entries). 0 < length (listed all)) (p.1 ∙ sym (listed_ok (entries services (Some stream) s) ok))
    (first_entry (services (code_of s)) (shares_in (services (code_of s))) (code_of s) s long (ap is_ok p.1))

-- where a packet and all after it pass, what it holds comes first
split : (base count : ℕ) (all : Entries) (rest : ℕ → Packets) → is_ok (and_then (all_moved base all) (λ es. with_packet es (rest (count + length es)))) ≡ true
    → (is_ok all ≡ true)
    × (flattened (and_then (all_moved base all) (λ es. with_packet es (rest (count + length es)))) ≡ map (entry_moved base) (listed all) ++ flattened (rest (count + length (map (entry_moved base) (listed all)))))
    × (is_ok (rest (count + length (map (entry_moved base) (listed all)))) ≡ true)
split base count (Err w) rest ok = absurd cc
split base count (Ok es) rest ok =
    let r = with_ok (map (entry_moved base) es) (rest (count + length (map (entry_moved base) es))) ok in
    (refl, r.0, r.1)
  where
    with_ok : (es : List Entry) (ps : Packets) → is_ok (with_packet es ps) ≡ true → (flattened (with_packet es ps) ≡ es ++ flattened ps) × (is_ok ps ≡ true)
    with_ok es (Ok ps) ok = (refl, refl)
    with_ok es (Err w) ok = absurd cc

-- what is known of a packet that was opened
pub record Opened {R : Type 0} (services : R → Services) (registry : R) (stream : Stream) (s : List ℕ) (at count : ℕ) (place : Place R) (next : ℕ) : Type 0 where
  pub passed : is_ok (packet_entries services place.packet place.offset) ≡ true
  pub some : 0 < length (entries_left services place)
  pub few : length (entries_left services place) ≤ length place.packet.bytes.now
  pub first : flattened (packets_from (services registry) stream s at count)
      ≡ entries_left services place ++ flattened (packets_from (services registry) stream s next (count + length (entries_left services place)))
  pub rest : is_ok (packets_from (services registry) stream s next (count + length (entries_left services place))) ≡ true

module _ {R : Type 0} (services : R → Services) (registry : R) (stream : Stream) (s : List ℕ) (at count : ℕ) (bytes : List ℕ)
    (part : part_of (drop at s) ≡ packet_of (length bytes)) (shown : bytes ≡ take (length bytes) (drop 4 (drop at s))) where
  abbrev own : Services
  own = services registry

  abbrev all : Entries
  all = entries own (Some stream) bytes

  abbrev next : ℕ
  next = after own stream s at count bytes part shown

  pub opened : (packet : Packet R) → Ok packet.head ≡ head_reading own (Some stream) bytes → (packet.registry.now ≡ registry) × (packet.bytes.now ≡ bytes)
      → is_ok (packets_from own stream s at count) ≡ true → Opened services registry stream s at count (record { packet = packet; base = at + 4; offset = 12 }) next
  opened packet head same ok =
      let here = packet_here own stream s at count bytes part shown in
      let parts = split (at + 4) count all (packets_from own stream s next) (ap is_ok (sym here) ∙ ok) in
      let read : packet_entries services packet 12 ≡ all = by_packet services registry (Some stream) bytes (λ m h b. entries_by (m h.code) h.shares h.code b 12) packet head same in
      let place : Place R = record { packet = packet; base = at + 4; offset = 12 } in
      let left : entries_left services place ≡ map (entry_moved (at + 4)) (listed all) = ap (λ es. map (entry_moved (at + 4)) (listed es)) read in
      let l : length (map (entry_moved (at + 4)) (listed all)) ≡ length (listed all) = length-map (listed all) (entry_moved (at + 4)) in
      let n : length (entries_left services place) ≡ length (listed all) = ap length left ∙ l in
      let some = some_entry own stream bytes parts.0 in
      let few : length (listed all) ≤ length bytes = subst (Bounded (length bytes) (length bytes + 12)) (listed_ok all parts.0) (bounded own (Some stream) bytes) in
      let size : length packet.bytes.now ≡ length bytes = ap length same.1 in
      record {
        passed = ap is_ok read ∙ parts.0;
        some = omega (arith, n, some);
        few = omega (arith, n, few, size);
        first = ap flattened here ∙ parts.1 ∙ ap (λ es. es ++ flattened (packets_from own stream s next (count + length es))) (sym left);
        rest = ap (λ (es : List Entry). is_ok (packets_from own stream s next (count + length es))) left ∙ parts.2;
      }

  -- a packet that is refused
  pub not_opened : (w : Refusal) → all ≡ Err w → is_ok (packets_from own stream s at count) ≡ true → ⊥
  not_opened w refused ok =
      let parts = split (at + 4) count all (packets_from own stream s next) (ap is_ok (sym (packet_here own stream s at count bytes part shown)) ∙ ok) in
      absurd (let z = ap is_ok (sym refused) ∙ parts.0 in cc)
