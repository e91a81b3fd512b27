-- An output holds the packets of a list of entries, and a copy's numbers tell of them; also after one entry more. Assumes nothing.
use Rattle.std.proofs.Common.{◌≡◌, ℕ, ◌+◌, ◌≤◌, true, false, ◌&&◌, eqb, leb, List, [], ◌∷◌, ◌++◌, map, length, take, Some, None, Option, sym, refl, ap, ◌∙◌, subst, ap₂, arith}
use Rattle.std.specs.List.{AllByRecursion}
use Rattle.std.proofs.ByRecursion.{All-push, All-drop}
use Rattle.std.proofs.Math.Seq.{drop-append_seam}
use Rattle.std.proofs.lemmas.List.{append_assoc, length_push}
use Rattle.std.proofs.lemmas.Bool.{cond_both}
use Rattle.records.specs.Services.{Services, LawfulService, shares_in}
use Rattle.records.specs.declared.code.Code.{Code}
use Rattle.tecmp.specs.Reading.{Entry}
use Rattle.tecmp.specs.declared.head.Stream.{Stream}
use Rattle.copy_format.specs.Image.{packet_limit, packet_head, packets_of, body}
use Rattle.copy_format.specs.Items.{Item, item_of, size, sharing}
use Rattle.copy_format.proofs.Cuts.{grow, cut-push, cut_joins, cut_begins}
use Rattle.copy_format.specs.Cutting.{Passes}
use Rattle.copy_format.proofs.Lengths.{room, length-packet_head}
use Rattle.copy_format.proofs.Packets.{joins}
use Rattle.canonical.specs.States.{frame, packet_for, packets_with, extended, begun, appended, joined_by, joined_in, after, put}
use Rattle.canonical.specs.declared.state.Extent.{Extent}
use Rattle.canonical.specs.declared.state.OpenPacket.{OpenPacket}
use Rattle.canonical.proofs.Accepted.{Accepted, may_stand, shares_as, packets_more, packets_pass}
use Rattle.canonical.proofs.Places.{length-spliced}
use Rattle.canonical.proofs.Ready.{Tail, room_tail, Ready, length-appended, appended_is, tail_ready, ready_joined, ready_begun}

abbrev pub LastIs : List (List Item) → Option OpenPacket → Type 0
LastIs ps None = ps ≡ []
LastIs ps (Some p) = Tail ps p

pub record Holds (services : Services) (stream : Stream) (x : Extent) (out : List ℕ) (es : List Entry) : Type 0 where
  pub fits : x.length + 4 ≤ length out
  pub written : take x.length out ≡ body stream 1 (packets_of services stream es)
  pub reaches : x.length ≡ room (packets_of services stream es)
  pub entries_are : x.entries ≡ length es
  pub packets_are : x.packets ≡ length (packets_of services stream es)
  pub last_is : LastIs (packets_of services stream es) x.last
  pub accepted : AllByRecursion (Accepted services stream) es

module _ (services : Services) (law : (code : Code) → LawfulService (services code)) (stream : Stream)
    (x : Extent) (out : List ℕ) (es : List Entry) (h : Holds services stream x out es) (e : Entry) (a : Accepted services stream e) where
  abbrev ps : List (List Item)
  ps = packets_of services stream es

  abbrev more : List (List Item)
  more = packets_of services stream (es ++ e ∷ [])

  abbrev item : Item
  item = item_of services e

  abbrev type : ℕ
  type = e.code.data_type

  -- the output is ready for the item, in the packet that it goes into
  record Into (j : Option OpenPacket) : Type 0 where
    kept : length (begun stream x j type out) ≡ length out
    ready : Ready stream more (packet_for x j type) item (begun stream x j type out)
    counted : packets_with x j ≡ length more

  abbrev Goes : Option OpenPacket → Type 0
  Goes j = (extended x j type (size item)).length + 4 ≤ length out → Into j

  begins : more ≡ ps ++ (item ∷ []) ∷ [] → Goes None
  begins m f =
      let lh : length (packet_head stream (x.packets + 1) type) ≡ 12 = length-packet_head stream (x.packets + 1) type in
      let n : x.packets ≡ length ps = h.packets_are in
      let k : length more ≡ length ps + 1 = ap length m ∙ length_push ps (item ∷ []) in
      record {
        kept = length-spliced out (packet_head stream (x.packets + 1) type) (x.length + 4) (omega arith);
        ready = ready_begun stream ps more item out x.length x.packets h.written h.reaches n (omega arith) m;
        counted = omega arith;
      }

  first : ps ≡ [] → more ≡ ps ++ (item ∷ []) ∷ []
  first z =
      packets_more services stream es e ∙ cut-push (may_stand services stream) (map (item_of services) es) item
      ∙ ap (λ r. grow (may_stand services stream) r item) z ∙ ap (λ r. r ++ (item ∷ []) ∷ []) (sym z)

  module _ (p : OpenPacket) (t : Tail ps p) where
    passes : Passes (may_stand services stream) t.last
    passes =
        let all : AllByRecursion (Passes (may_stand services stream)) (t.front ++ t.last ∷ []) = subst (AllByRecursion (Passes (may_stand services stream))) t.split (packets_pass services stream law es h.accepted) in
        (rw drop-append_seam at (All-drop (Passes (may_stand services stream)) (length t.front) (t.front ++ t.last ∷ []) all)).0

    -- the test on the numbers is the test on the packet
    test_is : may_stand services stream (t.last ++ item ∷ []) ≡ (leb (p.size + size item) packet_limit && (eqb p.data_type type && shares_in (services e.code)))
    test_is =
        joins (sharing services stream.message_type) packet_limit t.last item passes
        ∙ ap₂ (λ m k. leb (m + size item) packet_limit && (eqb k type && sharing services stream.message_type type)) (sym t.sized) (sym t.typed)
        ∙ ap (λ b. leb (p.size + size item) packet_limit && (eqb p.data_type type && b)) (shares_as services stream e a)

    joining : (leb (p.size + size item) packet_limit && (eqb p.data_type type && shares_in (services e.code))) ≡ true → Goes (Some p)
    joining y f =
        let m : more ≡ t.front ++ (t.last ++ item ∷ []) ∷ [] =
        packets_more services stream es e ∙ cut_joins (may_stand services stream) (map (item_of services) es) item t.front t.last t.split (test_is ∙ y) in
        let k : length more ≡ length t.front + 1 = ap length m ∙ length_push t.front (t.last ++ item ∷ []) in
        let n : length ps ≡ length t.front + 1 = ap length t.split ∙ length_push t.front t.last in
        record {
          kept = refl;
          ready = ready_joined stream ps more p item out x.length t passes.0 h.written h.reaches m;
          counted = h.packets_are ∙ n ∙ sym k;
        }

    parting : (leb (p.size + size item) packet_limit && (eqb p.data_type type && shares_in (services e.code))) ≡ false → more ≡ ps ++ (item ∷ []) ∷ []
    parting n =
        packets_more services stream es e ∙ cut_begins (may_stand services stream) (map (item_of services) es) item t.front t.last t.split (test_is ∙ n)
        ∙ sym (append_assoc t.front (t.last ∷ []) ((item ∷ []) ∷ [])) ∙ ap (λ r. r ++ (item ∷ []) ∷ []) (sym t.split)

  goes : (o : Option OpenPacket) → LastIs ps o → Goes (joined_by o (shares_in (services e.code)) type (size item))
  goes None z = begins (first z)
  goes (Some p) t =
      cond_both (leb (p.size + size item) packet_limit && (eqb p.data_type type && shares_in (services e.code))) (Some p) None Goes
      (joining p t) (λ n. begins (parting p t n))

  entered : (j : Option OpenPacket) → Into j → (extended x j type (size item)).length + 4 ≤ length out
      → Holds services stream (extended x j type (size item)) (appended (packet_for x j type) item (begun stream x j type out)) (es ++ e ∷ [])
  entered j i f =
      let p : OpenPacket = packet_for x j type in
      let b : List ℕ = begun stream x j type out in
      let k : length b ≡ length out = i.kept in
      let fits : p.begins + frame (p.size + size item) ≤ length b = omega arith in
      let l : length (appended p item b) ≡ length b = length-appended stream more p item b fits in
      let n = length_push es e in
      let m = h.entries_are in
      record {
        fits = omega arith;
        written = appended_is stream more p item b i.ready fits;
        reaches = sym (room_tail more _ (tail_ready stream more p item b i.ready));
        entries_are = omega arith;
        packets_are = i.counted;
        last_is = tail_ready stream more p item b i.ready;
        accepted = All-push (Accepted services stream) es e h.accepted a;
      }

  kept_on : (j : Option OpenPacket) → Into j → (extended x j type (size item)).length + 4 ≤ length out
      → length (appended (packet_for x j type) item (begun stream x j type out)) ≡ length out
  kept_on j i f = let k : length (begun stream x j type out) ≡ length out = i.kept in length-appended stream more (packet_for x j type) item (begun stream x j type out) (omega arith) ∙ k

  pub length-put : (after services x e).length + 4 ≤ length out → length (put services stream x e out) ≡ length out
  length-put f = kept_on (joined_in services x e) (goes x.last h.last_is f) f

  pub holds_more : (after services x e).length + 4 ≤ length out → Holds services stream (after services x e) (put services stream x e out) (es ++ e ∷ [])
  holds_more f = entered (joined_in services x e) (goes x.last h.last_is f) f
