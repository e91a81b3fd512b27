-- The test of a copy goes on from word to word. Assumes nothing.
use Rattle.std.proofs.Common.{◌≡◌, ℕ, ◌+◌, ◌/◌, ◌%◌, ◌^◌, ◌≤◌, Bool, true, false, cond, ◌&&◌, eqb, ltb, leb, List, [], ◌∷◌, map, length, take, drop, Some, Ok, Err, sym, refl, ap, ◌∙◌, subst, arith}
use Rattle.std.proofs.lemmas.List.{length-map, length-drop, drop-drop}
use Rattle.std.proofs.lemmas.Bool.{ltb-false, leb-true}
use Rattle.records.specs.Numbers.{offset_of}
use Rattle.records.specs.Services.{Services}
use Rattle.records.specs.Tests.{tested, and_then}
use Rattle.records.specs.declared.refusal.Refusal.{Refusal}
use Rattle.records.specs.declared.refusal.Refusal.TheVariants.{MalformedCopy}
use Rattle.tecmp.specs.Entries.{Entries, entries, counted}
use Rattle.tecmp.specs.Layout.{be4, zeros}
use Rattle.tecmp.specs.Reading.{Entry}
use Rattle.tecmp.specs.declared.head.Stream.{Stream}
use Rattle.tecmp.proofs.Walks.{counted_err}
use Rattle.copy_format.specs.Image.{filling}
use Rattle.copy_format.specs.ReadingBack.{moved, entry_moved, all_moved, Part, packet_of, closing, malformed, filled, part_of, Packets, with_packet, onward, packets_from}
use Rattle.copy_format.proofs.Words.{by_words}
use Rattle.copy_reader.specs.Passing.{tried}
use Rattle.copy_reader.proofs.Bounds.{Bounded, bounded}

tried_with : (es : List Entry) (p : Packets) → tried (with_packet es p) ≡ tried p
tried_with es (Ok ps) = refl
tried_with es (Err w) = refl

counted_on : (n count : ℕ) (all : Entries) (rest : ℕ → Packets) → Ok n ≡ counted 0 all → tried (and_then all (λ es. with_packet es (rest (count + length es)))) ≡ tried (rest (count + n))
counted_on n count (Ok es) rest e =
    let same : n ≡ 0 + length es = cc in
    let here : length es ≡ n = omega (arith, same) in
    tried_with es (rest (count + length es)) ∙ ap (λ k. tried (rest (count + k))) here
counted_on n count (Err w) rest e = absurd cc

-- the entries of a packet are counted, or its refusal is moved, and its offset is small
module _ (services : Services) (stream : Stream) (base : ℕ) (bytes : List ℕ) where
  abbrev packet : Entries
  packet = entries services (Some stream) bytes

  pub count_at : (n : ℕ) → Ok n ≡ counted 0 packet → (Ok n ≡ counted 0 (all_moved base packet)) × (n ≤ length bytes)
  count_at n e = go packet (bounded services (Some stream) bytes) e
    where
      go : (all : Entries) → Bounded (length bytes) (length bytes + 12) all → Ok n ≡ counted 0 all → (Ok n ≡ counted 0 (all_moved base all)) × (n ≤ length bytes)
      go (Ok es) few e =
          let same : n ≡ 0 + length es = cc in
          let l : length (map (entry_moved base) es) ≡ length es = length-map es (entry_moved base) in
          let moved : n ≡ 0 + length (map (entry_moved base) es) = omega arith in
          (ap Ok moved, omega (arith, few))
      go (Err w) few e = absurd cc

  pub refusal_at : (w : Refusal) → Err w ≡ counted 0 packet → (offset_of w ≤ length bytes + 12) × (Err (moved base w) ≡ counted 0 (all_moved base packet))
  refusal_at w e = go packet (bounded services (Some stream) bytes) e
    where
      go : (all : Entries) → Bounded (length bytes) (length bytes + 12) all → Err w ≡ counted 0 all → (offset_of w ≤ length bytes + 12) × (Err (moved base w) ≡ counted 0 (all_moved base all))
      go (Ok es) low e = absurd cc
      go (Err v) low e = let same : v ≡ w = cc in (subst (λ x. offset_of x ≤ length bytes + 12) same low, ap (λ x. Err (moved base x)) (sym same))

-- what a word that begins a packet says of the bytes after it
pub part_within : (t : List ℕ) (size : ℕ) → part_of t ≡ packet_of size → 4 + (size + filling size) ≤ length t
part_within t size e =
    let number : ℕ = be4 t 0 % 2 ^ 28 in
    let k = kinds (ltb (length t) 4) (eqb (be4 t 0 / 2 ^ 28) 1) (eqb (be4 t 0 / 2 ^ 28) 2) number size (filled number (drop 4 t)) e in
    let f = fits (leb (number + filling number) (length (drop 4 t))) (zeros (take (filling number) (drop number (drop 4 t)))) number size k.1 in
    let long : 4 ≤ length t = ltb-false _ _ k.0 in
    let l = length-drop 4 t in
    let high : number + filling number ≤ length (drop 4 t) = leb-true _ _ f.0 in
    subst (λ n. 4 + (n + filling n) ≤ length t) f.1 (omega arith)
  where
    kinds : (a b c : Bool) (number size : ℕ) (f : Part) → cond a malformed (cond b f (cond c (closing number) malformed)) ≡ packet_of size → (a ≡ false) × (f ≡ packet_of size)
    kinds true b c number size f e = absurd cc
    kinds false true c number size f e = (refl, e)
    kinds false false true number size f e = absurd cc
    kinds false false false number size f e = absurd cc

    fits : (a b : Bool) (n size : ℕ) → cond (a && b) (packet_of n) malformed ≡ packet_of size → (a ≡ true) × (n ≡ size)
    fits true true n size e = (refl, cc)
    fits true false n size e = absurd cc
    fits false b n size e = absurd cc

module _ (services : Services) (stream : Stream) (s : List ℕ) (at count : ℕ) where
  by_part : (p : Part) → part_of (drop at s) ≡ p → packets_from services stream s at count ≡ onward services stream s p at count (packets_from services stream s)
  by_part p e = by_words services stream s at count ∙ ap (λ q. onward services stream s q at count (packets_from services stream s)) e

  pub malformed_here : part_of (drop at s) ≡ malformed → Err MalformedCopy ≡ tried (packets_from services stream s at count)
  malformed_here e = sym (ap tried (by_part malformed e))

  pub closing_here : (total : ℕ) → part_of (drop at s) ≡ closing total
      → tested ((eqb (length s) (at + 4) && (eqb total count && ltb 0 total), MalformedCopy) ∷ []) (Ok tt) ≡ tried (packets_from services stream s at count)
  closing_here total e = go (eqb (length s) (at + 4) && (eqb total count && ltb 0 total)) ∙ sym (ap tried (by_part (closing total) e))
    where
      go : (b : Bool) → tested ((b, MalformedCopy) ∷ []) (Ok tt) ≡ tried (tested ((b, MalformedCopy) ∷ []) (Ok []))
      go true = refl
      go false = refl

  module _ (bytes : List ℕ) (part : part_of (drop at s) ≡ packet_of (length bytes)) (shown : bytes ≡ take (length bytes) (drop 4 (drop at s))) where
    abbrev pub after : ℕ
    after = at + 4 + (length bytes + filling (length bytes))

    abbrev pub those : Entries
    those = all_moved (at + 4) (entries services (Some stream) bytes)

    pub after_within : at ≤ length s → after ≤ length s
    after_within h =
        let l = length-drop at s in
        let w = part_within (drop at s) (length bytes) part in
        omega (arith, w)

    -- a packet, and what comes after it
    pub packet_here : packets_from services stream s at count ≡ and_then those (λ es. with_packet es (packets_from services stream s after (count + length es)))
    packet_here =
        let same : take (length bytes) (drop (at + 4) s) ≡ bytes = ap (take (length bytes)) (sym (drop-drop 4 at s)) ∙ sym shown in
        by_part (packet_of (length bytes)) part
        ∙ ap (λ b. and_then (all_moved (at + 4) (entries services (Some stream) b)) (λ es. with_packet es (packets_from services stream s after (count + length es)))) same

    pub passed_on : (n : ℕ) → Ok n ≡ counted 0 those → tried (packets_from services stream s at count) ≡ tried (packets_from services stream s after (count + n))
    passed_on n e = ap tried packet_here ∙ counted_on n count those (packets_from services stream s after) e

    pub refused_by : (w : Refusal) → those ≡ Err w → packets_from services stream s at count ≡ Err w
    refused_by w e = packet_here ∙ ap (λ all. and_then all (λ es. with_packet es (packets_from services stream s after (count + length es)))) e

    pub refused_here : (w : Refusal) → Err w ≡ counted 0 those → Err w ≡ tried (packets_from services stream s at count)
    refused_here w e = sym (ap tried (refused_by w (counted_err 0 those w e)))
