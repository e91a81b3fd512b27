-- A copy as it is written is read back as its packets. Assumes nothing.
use Rattle.std.proofs.Common.{◌≡◌, ℕ, zero, suc, ◌+◌, ◌-◌, ◌*◌, ◌/◌, ◌%◌, ◌^◌, ◌<◌, ◌≤◌, true, false, eqb, ltb, leb, List, [], ◌∷◌, ◌++◌, map, length, take, drop, replicate, Some, Ok, sym, refl, ap, ◌∙◌, length-drop, add_assoc, arith}
use Rattle.std.specs.List.{AllByRecursion, flat_map}
use Rattle.std.proofs.lemmas.List.{append_assoc, append-nil, length-append, length-replicate, take_at, drop_at, drop-drop, length-map}
use Rattle.std.proofs.lemmas.Bool.{le-leb, lt-ltb, eq-eqb}
use Rattle.std.proofs.lemmas.Bool.Decides.{nat_tests}
use Rattle.records.specs.Codes.{code_with}
use Rattle.records.specs.Services.{Services}
use Rattle.records.specs.Tests.{and_then}
use Rattle.records.specs.declared.code.Code.{Code}
use Rattle.records.specs.declared.code.MessageType.{MessageType}
use Rattle.records.specs.declared.code.MessageType.TheVariants.{LoggingStream, ReplayData}
use Rattle.records.proofs.Widths.{big-low}
use Rattle.tecmp.specs.Entries.{entries}
use Rattle.tecmp.specs.Layout.{be4, zeros}
use Rattle.tecmp.specs.Reading.{Entry}
use Rattle.tecmp.specs.declared.head.Stream.{Stream}
use Rattle.copy_format.specs.Cutting.{flat, NonEmpty, Passes}
use Rattle.copy_format.specs.Image.{packet_limit, packet_head, item_bytes, type_in, packet_bytes, word, filling, framed, body, copy_of}
use Rattle.copy_format.specs.Items.{Item, size, sizes, allowed, sharing}
use Rattle.copy_format.specs.ReadingBack.{entry_moved, all_moved, packet_of, closing, filled, by_kind, part_of, with_packet, stream_of, first_packet, stream_in, onward, packets_in, packets_from, read_back}
use Rattle.copy_format.proofs.Lengths.{length-word, length-packet, length-framed, room, length-copy}
use Rattle.copy_format.proofs.Packets.{fine}
use Rattle.copy_format.proofs.PacketsRead.{Narrow, placed, Fit, packet_read}
use Rattle.copy_format.proofs.Written.{two, four}

-- a word reads as its kind and its number
module _ (kind n : ℕ) (r : List ℕ) (h : n < 2 ^ 28) (k : kind < 16) where
  word_back : be4 (word kind n ++ r) 0 ≡ kind * 2 ^ 28 + n
  unfolding word
  word_back = four _ _ _ _ ∙ big-low 4 (kind * 2 ^ 28 + n) (omega arith)

  after_word : drop 4 (word kind n ++ r) ≡ r
  after_word = drop_at (word kind n) r 4 (length-word kind n)

  part_is : part_of (word kind n ++ r) ≡ by_kind kind n r
  part_is =
      let l : length (word kind n ++ r) ≡ 4 + length r = length-append (word kind n) r ∙ ap (λ m. m + length r) (length-word kind n) in
      let long : ltb (length (word kind n ++ r)) 4 ≡ false = grind (arith, nat_tests) in
      let e₁ : be4 (word kind n ++ r) 0 / 2 ^ 28 ≡ kind = let w = word_back in omega arith in
      let e₂ : be4 (word kind n ++ r) 0 % 2 ^ 28 ≡ n = let w = word_back in omega arith in
      rw (long, e₁, e₂, after_word) refl

zeros_all : (k : ℕ) → zeros (replicate k 0) ≡ true
zeros_all zero = refl
zeros_all (suc k) = zeros_all k

-- a packet with its filling
filled_back : (packet r : List ℕ) → filled (length packet) ((packet ++ replicate (filling (length packet)) 0) ++ r) ≡ packet_of (length packet)
filled_back packet r =
    let n : ℕ = length packet in
    let z : List ℕ = replicate (filling n) 0 in
    let lz : length z ≡ filling n = length-replicate {A = ℕ} (filling n) 0 in
    let a = append_assoc packet z r in
    let l : length ((packet ++ z) ++ r) ≡ n + filling n + length r = length-append (packet ++ z) r ∙ ap (λ m. m + length r) (length-append packet z ∙ ap (λ m. n + m) lz) in
    let high : leb (n + filling n) (length ((packet ++ z) ++ r)) ≡ true = le-leb _ _ (omega arith) in
    let rest : drop n ((packet ++ z) ++ r) ≡ z ++ r = ap (drop n) a ∙ drop_at packet (z ++ r) n refl in
    let fill : zeros (take (filling n) (drop n ((packet ++ z) ++ r))) ≡ true =
    ap (λ t. zeros (take (filling n) t)) rest ∙ ap zeros (take_at z r (filling n) lz) ∙ zeros_all (filling n) in
    rw (high, fill) refl

module _ (packet r : List ℕ) (h : length packet < 2 ^ 28) where
  abbrev z : List ℕ
  z = replicate (filling (length packet)) 0

  framed_is : framed packet ++ r ≡ word 1 (length packet) ++ ((packet ++ z) ++ r)
  unfolding framed
  framed_is = append_assoc (word 1 (length packet)) (packet ++ z) r

  part_framed : part_of (framed packet ++ r) ≡ packet_of (length packet)
  part_framed = ap part_of framed_is ∙ part_is 1 (length packet) ((packet ++ z) ++ r) h (omega arith) ∙ filled_back packet r

  packet_back : take (length packet) (drop 4 (framed packet ++ r)) ≡ packet
  packet_back =
      ap (λ t. take (length packet) (drop 4 t)) framed_is
      ∙ ap (take (length packet)) (after_word 1 (length packet) ((packet ++ z) ++ r) h (omega arith) ∙ append_assoc packet z r)
      ∙ take_at packet (z ++ r) (length packet) refl

-- the entries of packets that follow each other from an offset of a copy on
module _ (type : MessageType) where
  abbrev entries_placed : ℕ → List Item → List Entry
  entries_placed base [] = []
  entries_placed base (i ∷ is) = map (entry_moved base) (placed (code_with type i.data_type) 12 (i ∷ is))

  abbrev pub packets_placed : ℕ → List (List Item) → List (List Entry)
  packets_placed at [] = []
  packets_placed at (p ∷ ps) = entries_placed (at + 4) p ∷ packets_placed (at + 4 + (12 + sizes p + filling (12 + sizes p))) ps

length-placed : (code : Code) (at : ℕ) (is : List Item) → length (placed code at is) ≡ length is
length-placed code at [] = refl
length-placed code at (i ∷ is) = ap suc (length-placed code (at + size i) is)

module _ (services : Services) (stream : Stream) (narrow : Narrow stream.message_type stream.«module») where
  abbrev May : List Item → Type 0
  May = Passes (allowed (sharing services stream.message_type) packet_limit)

  module _ (s : List ℕ) (total : ℕ) (few : total < 2 ^ 28) (some : 0 < total) where
    closing_read : (n at : ℕ) → drop at s ≡ word 2 total → at ≤ length s → packets_in services stream s (suc n) at total ≡ Ok []
    closing_read n at left within =
        let l : length (drop at s) ≡ length s - at = length-drop at s in
        let w : length (drop at s) ≡ 4 = ap length left ∙ length-word 2 total in
        let part : part_of (drop at s) ≡ closing total = ap part_of (left ∙ sym (append-nil (word 2 total))) ∙ part_is 2 total [] few (omega arith) in
        let last : eqb (length s) (at + 4) ≡ true = eq-eqb _ _ (omega arith) in
        let same : eqb total total ≡ true = eq-eqb total total refl in
        ap (λ p. onward services stream s p at total (packets_in services stream s n)) part
        ∙ rw (last, same, lt-ltb 0 total some) refl

    copy_read : (ps : List (List Item)) (number n at count : ℕ) → at ≤ length s → drop at s ≡ body stream number ps ++ word 2 total → count + length (flat ps) ≡ total → length ps < n
        → AllByRecursion May ps → AllByRecursion (AllByRecursion (Fit services stream narrow)) ps → packets_in services stream s n at count ≡ Ok (packets_placed stream.message_type at ps)
    copy_read [] number zero at count within left c steps may fit = absurd (omega (arith, steps))
    copy_read [] number (suc n) at count within left c steps may fit =
        let all : count ≡ total = omega (arith, c) in
        rw all (closing_read n at left within)
    copy_read ([] ∷ ps) number n at count within left c steps may fit = absurd may.0.0
    copy_read ((i ∷ is) ∷ ps) number zero at count within left c steps may fit = absurd (omega (arith, steps))
    copy_read ((i ∷ is) ∷ ps) number (suc n) at count within left c steps may fit =
        let is' : List Item = i ∷ is in
        let code : Code = code_with stream.message_type i.data_type in
        let packet : List ℕ = packet_bytes stream number is' in
        let size' : ℕ = 12 + sizes is' in
        let r : List ℕ = body stream (suc number) ps ++ word 2 total in
        let l : length packet ≡ size' = length-packet stream number is' in
        let f = fine (sharing services stream.message_type) packet_limit i is may.0.1 in
        let short : length packet < 2 ^ 28 = let w = f.within in omega arith in
        let here : drop at s ≡ framed packet ++ r = left ∙ append_assoc (framed packet) (body stream (suc number) ps) (word 2 total) in
        let part : part_of (drop at s) ≡ packet_of size' = ap part_of here ∙ part_framed packet r short ∙ ap packet_of l in
        let bytes : take size' (drop (at + 4) s) ≡ packet =
        ap (take size') (sym (drop-drop 4 at s) ∙ ap (drop 4) here) ∙ ap (λ k. take k (drop 4 (framed packet ++ r))) (sym l) ∙ packet_back packet r short in
        let read : entries services (Some stream) (take size' (drop (at + 4) s)) ≡ Ok (placed code 12 is') =
        ap (entries services (Some stream)) bytes ∙ packet_read services stream narrow number i is may.0.1 fit.0 in
        let es : List Entry = map (entry_moved (at + 4)) (placed code 12 is') in
        let les : length es ≡ length is' = length-map (placed code 12 is') (entry_moved (at + 4)) ∙ length-placed code 12 is' in
        let lf : length (framed packet) ≡ 4 + (size' + filling size') = length-framed packet size' l in
        let ld : length (drop at s) ≡ length s - at = length-drop at s in
        let la : length (drop at s) ≡ length (framed packet) + length r = ap length here ∙ length-append (framed packet) r in
        let next : drop (at + 4 + (size' + filling size')) s ≡ r =
        ap (λ k. drop k s) (add_assoc at 4 (size' + filling size'))
        ∙ sym (drop-drop (4 + (size' + filling size')) at s)
        ∙ ap (drop (4 + (size' + filling size'))) here
        ∙ drop_at (framed packet) r (4 + (size' + filling size')) lf in
        let lc : length (is' ++ flat ps) ≡ length is' + length (flat ps) = length-append is' (flat ps) in
        let rest : packets_in services stream s n (at + 4 + (size' + filling size')) (count + length es) ≡ Ok (packets_placed stream.message_type (at + 4 + (size' + filling size')) ps) =
        copy_read ps (suc number) n (at + 4 + (size' + filling size')) (count + length es) (omega arith) next (omega arith) (omega (arith, steps)) may.1 fit.1 in
        ap (λ p. onward services stream s p at count (packets_in services stream s n)) part
        ∙ ap (λ q. and_then (all_moved (at + 4) q) (λ fs. with_packet fs (packets_in services stream s n (at + 4 + (size' + filling size')) (count + length fs)))) read
        ∙ ap (with_packet es) rest

few_items : (is : List Item) → length is ≤ sizes is
few_items [] = omega arith
few_items (i ∷ is) = let e : length is ≤ sizes is = few_items is in omega arith

few_in : (ps : List (List Item)) → (length (flat ps) ≤ room ps) × (length ps ≤ room ps)
few_in [] = (omega arith, omega arith)
few_in (p ∷ ps) =
    let e = few_in ps in
    let l = length-append p (flat ps) in
    (omega (arith, few_items p, e.0), omega (arith, e.1))

-- the first packet says of which stream a copy is
stream_back : (type : MessageType) (device number data_type : ℕ) (r : List ℕ) → Narrow type device
    → stream_of (packet_head (record { message_type = type; «module» = device }) number data_type ++ r) ≡ record { message_type = type; «module» = device }
unfolding packet_head
stream_back LoggingStream device number data_type r narrow =
    let d : device / 256 % 256 * 256 + device / 1 % 256 ≡ device = two _ _ ∙ big-low 2 device (omega (arith, narrow)) in
    ap (λ n. record { message_type = LoggingStream; «module» = n }) d
stream_back ReplayData device number data_type r narrow = ap (λ n. record { message_type = ReplayData; «module» = n }) (sym narrow)

module _ (services : Services) (stream : Stream) (narrow : Narrow stream.message_type stream.«module») where
  first_stream : (p : List Item) (r : List ℕ) → length (packet_bytes stream 1 p) < 2 ^ 28 → stream_in (framed (packet_bytes stream 1 p) ++ r) ≡ stream
  unfolding packet_bytes
  first_stream p r short =
      let packet : List ℕ = packet_bytes stream 1 p in
      ap (λ q. stream_of (first_packet q (framed packet ++ r))) (part_framed packet r short)
      ∙ ap stream_of (packet_back packet r short)
      ∙ stream_back stream.message_type stream.«module» 1 (type_in p) (flat_map item_bytes p) narrow

  -- packets of a stream, in a copy of it
  pub copy_reads : (ps : List (List Item)) → NonEmpty ps → length (copy_of stream ps) ≤ 16777216 → AllByRecursion (May services stream narrow) ps → AllByRecursion (AllByRecursion (Fit services stream narrow)) ps
      → read_back services (copy_of stream ps) ≡ Ok (record { stream = stream; packets = packets_placed stream.message_type 0 ps })
  copy_reads [] some short may fit = absurd some
  copy_reads ([] ∷ ps) some short may fit = absurd may.0.0
  copy_reads ((i ∷ is) ∷ ps) some short may fit =
      let qs : List (List Item) = (i ∷ is) ∷ ps in
      let s : List ℕ = copy_of stream qs in
      let l : length s ≡ room qs + 4 = length-copy stream qs in
      let few = few_in qs in
      let f = fine (sharing services stream.message_type) packet_limit i is may.0.1 in
      let lp : length (packet_bytes stream 1 (i ∷ is)) ≡ 12 + sizes (i ∷ is) = length-packet stream 1 (i ∷ is) in
      let own : stream_in s ≡ stream =
      ap stream_in (append_assoc (framed (packet_bytes stream 1 (i ∷ is))) (body stream 2 ps) (word 2 (length (flat qs))))
      ∙ first_stream (i ∷ is) (body stream 2 ps ++ word 2 (length (flat qs))) (omega (arith, f.within)) in
      let read : packets_in services stream s (length s) 0 0 ≡ Ok (packets_placed stream.message_type 0 qs) =
      copy_read services stream narrow s (length (flat qs)) (omega (arith, few.0)) (omega arith) qs 1 (length s) 0 0 (omega arith) refl (omega arith) (omega (arith, few.1)) may fit in
      rw (le-leb (length s) 16777216 short)
      (ap (λ t. and_then (packets_from services t s 0 0) (λ fs. Ok (record { stream = t; packets = fs }))) own
      ∙ ap (λ p. and_then p (λ fs. Ok (record { stream = stream; packets = fs }))) read)
