-- The first packet of a copy is of the copy's stream. Assumes nothing.
use Rattle.std.proofs.Common.{◌≡◌, ℕ, Bool, true, false, cond, not, ◌||◌, eqb, List, length, take, drop, Some, None, Ok, Err, Result, sym, refl, ap, ◌∙◌, subst}
use Rattle.std.proofs.lemmas.Bool.{eq-eqb}
use Rattle.records.specs.Codes.{same_type}
use Rattle.records.specs.Services.{Services}
use Rattle.records.specs.Tests.{tested}
use Rattle.records.specs.declared.code.MessageType.{MessageType}
use Rattle.records.specs.declared.code.MessageType.TheVariants.{LoggingStream, ReplayData}
use Rattle.records.specs.declared.refusal.Refusal.{Refusal}
use Rattle.tecmp.specs.Entries.{entries, entries_from}
use Rattle.tecmp.specs.Heads.{read_of}
use Rattle.tecmp.specs.Layout.{device_id, message_type, code_of}
use Rattle.tecmp.specs.Reading.{is_logged, head_tests, head_of, head_reading}
use Rattle.tecmp.specs.declared.head.Head.{Head}
use Rattle.tecmp.specs.declared.head.Stream.{Stream}
use Rattle.tecmp.proofs.Walks.{no_head}
use Rattle.copy_format.specs.ReadingBack.{moved, all_moved, part_of, packet_of, stream_of, first_packet, stream_in, packets_from}
use Rattle.copy_reader.proofs.Bounds.{tested_holds}
use Rattle.copy_reader.proofs.Passes.{refused_by}

same_as_itself : (t : MessageType) → same_type t t ≡ true
same_as_itself LoggingStream = refl
same_as_itself ReplayData = refl

own_module : (logged : Bool) (device : ℕ) → (not logged || eqb device (read_of (cond logged LoggingStream ReplayData) device)) ≡ (not logged || true)
own_module true device = eq-eqb device device refl
own_module false device = refl

-- a packet is of its own stream: asking for that one is asking for none
own_tests : {A : Type 0} (services : Services) (s : List ℕ) (r : Result A Refusal) → tested (head_tests services None s) r ≡ tested (head_tests services (Some (stream_of s)) s) r
own_tests services s r = rw (same_as_itself (message_type s), own_module (is_logged s) (device_id s)) refl

-- a refusal of the head is of the whole packet, wherever it begins
abbrev Stays : ℕ → Result Head Refusal → Type 0
Stays base (Ok head) = Unit {0}
Stays base (Err w) = moved base w ≡ w

head_stays : (base : ℕ) (services : Services) (s : List ℕ) → Stays base (head_reading services None s)
head_stays base services s =
    tested_holds (Stays base) (head_tests services None s) (Ok (head_of services s)) (refl, (refl, (refl, (refl, (refl, (refl, (refl, (refl, (refl, tt))))))))) tt

pub first_refused : (services : Services) (s bytes : List ℕ) → part_of s ≡ packet_of (length bytes) → bytes ≡ take (length bytes) (drop 4 s)
    → (w : Refusal) → Err w ≡ head_reading services None bytes → packets_from services (stream_in s) s 0 0 ≡ Err w
first_refused services s bytes part shown w e =
    let stream : stream_in s ≡ stream_of bytes = ap (λ p. stream_of (first_packet p s)) part ∙ ap stream_of (sym shown) in
    let stays : moved 4 w ≡ w = subst (Stays 4) (sym e) (head_stays 4 services bytes) in
    let all : entries services (Some (stream_of bytes)) bytes ≡ Err w = sym (no_head services None bytes _ w e ∙ own_tests services bytes (entries_from (services (code_of bytes)) (code_of bytes) bytes 12)) in
    ap (λ (st : Stream). packets_from services st s 0 0) stream
    ∙ refused_by services (stream_of bytes) s 0 0 bytes part shown w (ap (all_moved 4) all ∙ ap Err stays)
