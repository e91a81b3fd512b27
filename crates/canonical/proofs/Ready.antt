-- An item goes into the last packet of an output: the bytes that then stand there. Assumes nothing.
use Rattle.std.proofs.Common.{◌≡◌, ℕ, ◌+◌, ◌≤◌, List, [], ◌∷◌, ◌++◌, length, take, drop, replicate, sym, refl, ap, ◌∙◌, ap₂, arith}
use Rattle.std.proofs.lemmas.List.{length-append, length-replicate}
use Rattle.tecmp.specs.declared.head.Stream.{Stream}
use Rattle.copy_format.specs.Image.{item_bytes, packet_head, packet_bytes, type_in, word, filling, framed, body}
use Rattle.copy_format.specs.Items.{Item, size, sizes}
use Rattle.copy_format.specs.Cutting.{NonEmpty}
use Rattle.copy_format.proofs.Lengths.{length-word, length-item, length-packet_head, length-packet, length-body, room, room-push, body-push, packet_one, packet-push, type_push, framed-push}
use Rattle.copy_format.proofs.Packets.{sizes-push}
use Rattle.canonical.specs.States.{frame, spliced, appended}
use Rattle.canonical.specs.declared.state.OpenPacket.{OpenPacket}
use Rattle.canonical.proofs.Places.{take_two, length_two, take-before, read_spliced, before-word, after_word}

-- what an open packet tells of the last packet
pub record Tail (ps : List (List Item)) (p : OpenPacket) : Type 0 where
  pub front : List (List Item)
  pub last : List Item
  pub split : ps ≡ front ++ last ∷ []
  pub begins_at : p.begins ≡ room front
  pub sized : p.size ≡ 12 + sizes last
  pub typed : p.data_type ≡ type_in last

-- how far the packets reach
pub room_tail : (ps : List (List Item)) (p : OpenPacket) → Tail ps p → room ps ≡ p.begins + frame p.size
room_tail ps p t = ap room t.split ∙ room-push t.front t.last ∙ ap₂ (λ u v. u + frame v) (sym t.begins_at) (sym t.sized)

-- an output in which the open packet stands, up to where the item goes: the packets are those with the item
pub record Ready (stream : Stream) (ps : List (List Item)) (p : OpenPacket) (i : Item) (out : List ℕ) : Type 0 where
  pub front : List (List Item)
  pub last : List Item
  pub split : ps ≡ front ++ last ∷ []
  pub begins_at : p.begins ≡ room front
  pub sized : p.size + size i ≡ 12 + sizes last
  pub typed : p.data_type ≡ type_in last
  pub before : take p.begins out ≡ body stream 1 front
  pub content : List ℕ
  pub stands : take p.size (drop (p.begins + 4) out) ≡ content
  pub long : length content ≡ p.size
  pub with_item : packet_bytes stream (1 + length front) last ≡ content ++ item_bytes i

module _ (stream : Stream) (ps : List (List Item)) (p : OpenPacket) (i : Item) (out : List ℕ) where
  long_new : length (item_bytes i ++ replicate (filling (p.size + size i)) 0) ≡ size i + filling (p.size + size i)
  long_new = length-append (item_bytes i) (replicate (filling (p.size + size i)) 0) ∙ ap₂ (λ u v. u + v) (length-item i) (length-replicate {A = ℕ} (filling (p.size + size i)) 0)

  pub length-appended : p.begins + frame (p.size + size i) ≤ length out → length (appended p i out) ≡ length out
  length-appended h =
      let l = long_new in
      length_two out (word 1 (p.size + size i)) (item_bytes i ++ replicate (filling (p.size + size i)) 0) p.begins p.size (length-word 1 (p.size + size i)) (omega arith)

  pub appended_is : Ready stream ps p i out → p.begins + frame (p.size + size i) ≤ length out
      → take (p.begins + frame (p.size + size i)) (appended p i out) ≡ body stream 1 ps
  appended_is r h =
      let l = long_new in
      let w : List ℕ = word 1 (p.size + size i) in
      let x : List ℕ = item_bytes i ++ replicate (filling (p.size + size i)) 0 in
      let k : p.begins + frame (p.size + size i) ≡ p.begins + 4 + p.size + length x = omega arith in
      ap (λ n. take n (appended p i out)) k
      ∙ take_two out w x p.begins p.size (length-word 1 (p.size + size i)) (omega arith)
      ∙ ap₂ {C = List ℕ} (λ a b. a ++ (w ++ (b ++ x))) r.before r.stands
      ∙ ap (λ b. body stream 1 r.front ++ b) (sym (framed-push r.content i p.size r.long) ∙ ap framed (sym r.with_item))
      ∙ sym (body-push stream 1 r.front r.last)
      ∙ ap (body stream 1) (sym r.split)

  pub tail_ready : Ready stream ps p i out → Tail ps (record { begins = p.begins; size = p.size + size i; data_type = p.data_type })
  tail_ready r = record { front = r.front; last = r.last; split = r.split; begins_at = r.begins_at; sized = r.sized; typed = r.typed }

-- the last packet of packets that an output holds, where the item joins it
pub ready_joined : (stream : Stream) (ps ps' : List (List Item)) (p : OpenPacket) (i : Item) (out : List ℕ) (l : ℕ) (t : Tail ps p) → NonEmpty t.last
    → take l out ≡ body stream 1 ps → l ≡ room ps → ps' ≡ t.front ++ (t.last ++ i ∷ []) ∷ [] → Ready stream ps' p i out
unfolding framed
ready_joined stream ps ps' p i out l t some written long more =
    let f : List (List Item) = t.front in
    let q : List Item = t.last in
    let c : List ℕ = packet_bytes stream (1 + length f) q in
    let w : List ℕ = word 1 (length c) in
    let z : List ℕ = replicate (filling (length c)) 0 in
    let a : take l out ≡ body stream 1 f ++ (w ++ (c ++ z)) = written ∙ ap (body stream 1) t.split ∙ body-push stream 1 f q in
    let lf : length (body stream 1 f) ≡ p.begins = length-body stream 1 f ∙ sym t.begins_at in
    let lc : length c ≡ p.size = length-packet stream (1 + length f) q ∙ sym t.sized in
    let lw : length w ≡ 4 = length-word 1 (length c) in
    let r : room ps ≡ p.begins + frame p.size = room_tail ps p t in
    let far : p.begins + 4 + p.size ≤ l = omega arith in
    let n = sizes-push q i in
    record {
      front = f;
      last = q ++ i ∷ [];
      split = more;
      begins_at = t.begins_at;
      sized = omega (arith, t.sized);
      typed = t.typed ∙ sym (type_push q i some);
      before = before-word out (body stream 1 f) w c z l p.begins p.size a lf lw lc far;
      content = c;
      stands = after_word out (body stream 1 f) w c z l p.begins p.size a lf lw lc far;
      long = lc;
      with_item = packet-push stream (1 + length f) q i some;
    }

-- a packet that begins with the item, after the packets that the output holds
pub ready_begun : (stream : Stream) (ps ps' : List (List Item)) (i : Item) (out : List ℕ) (l packets : ℕ)
    → take l out ≡ body stream 1 ps → l ≡ room ps → packets ≡ length ps → l + 16 ≤ length out → ps' ≡ ps ++ (i ∷ []) ∷ []
    → Ready stream ps' (record { begins = l; size = 12; data_type = i.data_type }) i (spliced out (l + 4) (packet_head stream (packets + 1) i.data_type))
ready_begun stream ps ps' i out l packets written long count fits more =
    let h : List ℕ = packet_head stream (packets + 1) i.data_type in
    let lh : length h ≡ 12 = length-packet_head stream (packets + 1) i.data_type in
    let n : 1 + length ps ≡ packets + 1 = omega arith in
    let room_for : l + 4 + length h ≤ length out = omega arith in
    record {
      front = ps;
      last = i ∷ [];
      split = more;
      begins_at = long;
      sized = omega arith;
      typed = refl;
      before = take-before out h (l + 4) room_for l (omega arith) ∙ written;
      content = h;
      stands = ap (λ k. take k (drop (l + 4) (spliced out (l + 4) h))) (sym lh) ∙ read_spliced out h (l + 4) room_for;
      long = lh;
      with_item = ap (λ k. packet_bytes stream k (i ∷ [])) n ∙ packet_one stream (packets + 1) i;
    }
