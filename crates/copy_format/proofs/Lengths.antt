-- How long the parts of a copy are, and its bytes with one packet or one item more. Assumes nothing.
use Rattle.std.proofs.Common.{◌≡◌, ℕ, suc, ◌+◌, List, [], ◌∷◌, ◌++◌, length, replicate, sym, refl, ap, ◌∙◌, ap₂, arith}
use Rattle.std.specs.List.{flat_map}
use Rattle.std.proofs.lemmas.List.{append_assoc, append-nil, length-append, length-replicate, flat_map_more}
use Rattle.tecmp.specs.declared.head.Stream.{Stream}
use Rattle.copy_format.specs.Cutting.{flat, NonEmpty}
use Rattle.copy_format.specs.Image.{entry_head, item_bytes, packet_head, type_in, packet_bytes, word, filling, framed, body, copy_of}
use Rattle.copy_format.specs.Items.{Item, size, sizes}

pub length-word : (kind n : ℕ) → length (word kind n) ≡ 4
unfolding word
length-word kind n = refl

pub length-entry_head : (interface time long flags : ℕ) → length (entry_head interface time long flags) ≡ 16
unfolding entry_head
length-entry_head interface time long flags = refl

pub length-packet_head : (stream : Stream) (number data_type : ℕ) → length (packet_head stream number data_type) ≡ 12
unfolding packet_head
length-packet_head stream number data_type = refl

pub length-item : (i : Item) → length (item_bytes i) ≡ size i
length-item i =
    let h = entry_head i.interface i.time (length i.bytes) i.flags in
    length-append h i.bytes ∙ ap (λ n. n + length i.bytes) (length-entry_head _ _ _ _)

pub length-items : (is : List Item) → length (flat_map item_bytes is) ≡ sizes is
length-items [] = refl
length-items (i ∷ is) = length-append (item_bytes i) (flat_map item_bytes is) ∙ ap₂ (λ m n. m + n) (length-item i) (length-items is)

pub length-packet : (stream : Stream) (number : ℕ) (is : List Item) → length (packet_bytes stream number is) ≡ 12 + sizes is
unfolding packet_bytes
length-packet stream number is =
    length-append (packet_head stream number (type_in is)) (flat_map item_bytes is) ∙ ap₂ (λ m n. m + n) (length-packet_head stream number (type_in is)) (length-items is)

-- with its word and its filling
pub length-framed : (packet : List ℕ) (n : ℕ) → length packet ≡ n → length (framed packet) ≡ 4 + (n + filling n)
unfolding framed
length-framed packet n h =
    let w : List ℕ = word 1 (length packet) in
    let z : List ℕ = replicate (filling (length packet)) 0 in
    let a = length-append w (packet ++ z) in
    let b = length-append packet z in
    let c : length z ≡ filling (length packet) = length-replicate {A = ℕ} (filling (length packet)) 0 in
    let d : length w ≡ 4 = length-word 1 (length packet) in
    let e : length (framed packet) ≡ 4 + (length packet + filling (length packet)) = a ∙ ap₂ (λ m k. m + k) d (b ∙ ap (λ k. length packet + k) c) in
    e ∙ ap (λ k. 4 + (k + filling k)) h

-- the bytes of packets in a copy
abbrev pub room : List (List Item) → ℕ
room [] = 0
room (p ∷ ps) = 4 + (12 + sizes p + filling (12 + sizes p)) + room ps

pub length-body : (stream : Stream) (number : ℕ) (ps : List (List Item)) → length (body stream number ps) ≡ room ps
length-body stream number [] = refl
length-body stream number (p ∷ ps) =
    length-append (framed (packet_bytes stream number p)) (body stream (suc number) ps)
    ∙ ap₂ (λ m n. m + n) (length-framed (packet_bytes stream number p) (12 + sizes p) (length-packet stream number p)) (length-body stream (suc number) ps)

pub length-copy : (stream : Stream) (ps : List (List Item)) → length (copy_of stream ps) ≡ room ps + 4
length-copy stream ps = length-append (body stream 1 ps) (word 2 (length (flat ps))) ∙ ap₂ (λ m n. m + n) (length-body stream 1 ps) (length-word 2 (length (flat ps)))

-- one packet more
pub room-push : (ps : List (List Item)) (q : List Item) → room (ps ++ q ∷ []) ≡ room ps + (4 + (12 + sizes q + filling (12 + sizes q)))
room-push [] q = omega arith
room-push (p ∷ ps) q = let i = room-push ps q in omega arith

pub body-push : (stream : Stream) (number : ℕ) (ps : List (List Item)) (q : List Item)
    → body stream number (ps ++ q ∷ []) ≡ body stream number ps ++ framed (packet_bytes stream (number + length ps) q)
body-push stream number [] q =
    let z : number ≡ number + 0 = omega arith in
    append-nil (framed (packet_bytes stream number q)) ∙ ap (λ n. framed (packet_bytes stream n q)) z
body-push stream number (p ∷ ps) q =
    let z : suc number + length ps ≡ number + suc (length ps) = omega arith in
    let f = framed (packet_bytes stream number p) in
    ap (λ r. f ++ r) (body-push stream (suc number) ps q ∙ ap (λ n. body stream (suc number) ps ++ framed (packet_bytes stream n q)) z)
    ∙ sym (append_assoc f (body stream (suc number) ps) (framed (packet_bytes stream (number + suc (length ps)) q)))

-- one item more: in a packet of its own, and in a packet of others
pub packet_one : (stream : Stream) (number : ℕ) (i : Item) → packet_bytes stream number (i ∷ []) ≡ packet_head stream number i.data_type ++ item_bytes i
unfolding packet_bytes
packet_one stream number i = ap (λ r. packet_head stream number i.data_type ++ r) (append-nil (item_bytes i))

pub type_push : (q : List Item) (i : Item) → NonEmpty q → type_in (q ++ i ∷ []) ≡ type_in q
type_push [] i s = absurd s
type_push (x ∷ q) i s = refl

pub packet-push : (stream : Stream) (number : ℕ) (q : List Item) (i : Item) → NonEmpty q → packet_bytes stream number (q ++ i ∷ []) ≡ packet_bytes stream number q ++ item_bytes i
unfolding packet_bytes
packet-push stream number q i s =
    let h : List ℕ = packet_head stream number (type_in q) in
    ap (λ t. packet_head stream number t ++ flat_map item_bytes (q ++ i ∷ [])) (type_push q i s)
    ∙ sym (flat_map_more item_bytes h q i)

pub framed-push : (b : List ℕ) (i : Item) (n : ℕ) → length b ≡ n
    → framed (b ++ item_bytes i) ≡ word 1 (n + size i) ++ (b ++ (item_bytes i ++ replicate (filling (n + size i)) 0))
unfolding framed
framed-push b i n h =
    let l : length (b ++ item_bytes i) ≡ n + size i = length-append b (item_bytes i) ∙ ap₂ (λ m k. m + k) h (length-item i) in
    ap (λ k. word 1 k ++ ((b ++ item_bytes i) ++ replicate (filling k) 0)) l
    ∙ ap (λ r. word 1 (n + size i) ++ r) (append_assoc b (item_bytes i) (replicate (filling (n + size i)) 0))
