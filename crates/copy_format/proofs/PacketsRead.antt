-- A packet as it is written reads as its items. Assumes nothing.
use Rattle.std.proofs.Common.{◌≡◌, ℕ, ◌+◌, ◌^◌, ◌<◌, ◌≤◌, Bool, true, ◌&&◌, ◌||◌, eqb, leb, List, [], ◌∷◌, ◌++◌, length, drop, is_ok, Some, None, Ok, sym, refl, ap, ◌∙◌, subst, arith}
use Rattle.std.specs.List.{AllByRecursion, flat_map}
use Rattle.std.proofs.lemmas.List.{drop_at, drop-drop}
use Rattle.std.proofs.lemmas.Bool.{le-leb, and_from, eqb-true, eq-eqb, and_parts}
use Rattle.records.specs.BigEndian.{low}
use Rattle.records.specs.Codes.{code_with}
use Rattle.records.specs.Services.{Services, Service, unserved, served, is_served, shares_in, checked_by}
use Rattle.records.specs.Tests.{Passed}
use Rattle.records.specs.declared.code.Code.{Code}
use Rattle.records.specs.declared.code.MessageType.{MessageType}
use Rattle.records.specs.declared.code.MessageType.TheVariants.{LoggingStream, ReplayData}
use Rattle.records.specs.declared.refusal.Refusal.TheVariants.{PastEnd}
use Rattle.records.proofs.Tested.{tested_passed}
use Rattle.records.proofs.Widths.{big-low}
use Rattle.tecmp.specs.Entries.{before, onward, entries_by, entries_from, entries}
use Rattle.tecmp.specs.Layout.{device_id, code_of}
use Rattle.tecmp.specs.Reading.{Entry, head_tests, inside_by, of_rest_by}
use Rattle.tecmp.specs.declared.head.Stream.{Stream}
use Rattle.tecmp.proofs.Walks.{entries_on, further}
use Rattle.copy_format.specs.Image.{packet_limit, packet_head, packet_bytes, item_bytes}
use Rattle.copy_format.specs.Items.{Item, size, sizes, all_of_type, none, allowed, sharing}
use Rattle.copy_format.proofs.Lengths.{length-item, length-packet, length-packet_head}
use Rattle.copy_format.proofs.Packets.{fine}
use Rattle.copy_format.proofs.Written.{Sound, entry_in, found_in, read_at, two}

-- the entries that items are read as, one after the other from an offset on
abbrev pub placed : Code → ℕ → List Item → List Entry
placed code at [] = []
placed code at (i ∷ is) = entry_in code at i ∷ placed code (at + size i) is

-- after the first entry the code has to share
abbrev May : Bool → ℕ → List Item → Type 0
May shares at [] = Unit {0}
May shares at (i ∷ is) = (12 < at → shares ≡ true) × May shares (at + size i) is

may_all : (shares : Bool) (at : ℕ) (is : List Item) → shares ≡ true → May shares at is
may_all shares at [] e = tt
may_all shares at (i ∷ is) e = ((λ _. e), may_all shares (at + size i) is e)

may_first : (shares : Bool) (i : Item) (is : List Item) → (none is || shares) ≡ true → May shares 12 (i ∷ is)
may_first shares i [] e = ((λ h. absurd (omega (arith, h))), tt)
may_first shares i (j ∷ is) e = may_all shares 12 (i ∷ j ∷ is) e

module _ (service : Service) (shares : Bool) (code : Code) (s : List ℕ) where
  inside_is : (at : ℕ) → 12 ≤ at → at ≤ length s → inside_by service shares code s at ≡ of_rest_by service shares code (length s) at (drop at s)
  inside_is at low high = tested_passed ((leb 12 at && leb at (length s), PastEnd at) ∷ []) _ (and_from _ _ (le-leb _ _ low) (le-leb _ _ high), tt)

  pub items_read : (is : List Item) (at : ℕ) → 12 ≤ at → at + sizes is ≡ length s → drop at s ≡ flat_map item_bytes is
      → AllByRecursion (Sound service code) is → May shares at is → entries_by service shares code s at ≡ Ok (placed code at is)
  items_read [] at low ends left sound may =
      let none_left : inside_by service shares code s at ≡ Ok None = inside_is at low (omega arith) ∙ ap (of_rest_by service shares code (length s) at) left in
      entries_on service shares code s at ∙ ap (λ a. onward a (entries_by service shares code s)) none_left
  items_read (i ∷ is) at low ends left sound may =
      let here : inside_by service shares code s at ≡ Ok (Some (found_in code at i)) =
      inside_is at low (omega arith)
      ∙ ap (of_rest_by service shares code (length s) at) left
      ∙ read_at service code i sound.0 at (flat_map item_bytes is) shares (length s) may.0 in
      let next : drop (at + size i) s ≡ flat_map item_bytes is =
      sym (drop-drop (size i) at s) ∙ ap (drop (size i)) left ∙ drop_at (item_bytes i) (flat_map item_bytes is) (size i) (length-item i) in
      further service shares code s at (found_in code at i) here
      ∙ ap (before (entry_in code at i)) (items_read is (at + size i) (omega arith) (omega arith) next sound.1 may.1)

-- a stream that a copy can be of
abbrev pub Narrow : MessageType → ℕ → Type 0
Narrow LoggingStream device = device ≤ 255
Narrow ReplayData device = device ≡ 0

-- the head as it is written, before any bytes
module _ (number type : ℕ) (r : List ℕ) where
  abbrev begun : MessageType → ℕ → List ℕ
  begun t device = packet_head (record { message_type = t; «module» = device }) number type ++ r

  code_back : (t : MessageType) (device : ℕ) → type < 2 ^ 16 → code_of (begun t device) ≡ code_with t type
  unfolding packet_head
  code_back LoggingStream device h = ap (code_with LoggingStream) (two _ _ ∙ big-low 2 type h)
  code_back ReplayData device h = ap (code_with ReplayData) (two _ _ ∙ big-low 2 type h)

  device_back : (t : MessageType) (device : ℕ) → device < 2 ^ 16 → device_id (begun t device) ≡ device
  unfolding packet_head
  device_back LoggingStream device h = two _ _ ∙ big-low 2 device h
  device_back ReplayData device h = two _ _ ∙ big-low 2 device h

  head_passes : (services : Services) (t : MessageType) (device : ℕ) → Narrow t device → 28 ≤ length (begun t device) → length (begun t device) ≤ 1500
      → is_served (services (code_of (begun t device))) ≡ true
      → Passed (head_tests services (Some (record { message_type = t; «module» = device })) (begun t device))
  unfolding packet_head
  head_passes services LoggingStream device narrow long short known =
      let d = device_back LoggingStream device (omega (arith, narrow)) in
      let own : leb (device_id (begun LoggingStream device)) 255 ≡ true = ap (λ n. leb n 255) d ∙ le-leb device 255 narrow in
      let same : eqb (device_id (begun LoggingStream device)) device ≡ true = eq-eqb _ _ d in
      (le-leb _ _ long, (le-leb _ _ short, (refl, (refl, (refl, (own, (same, (refl, (known, tt)))))))))
  head_passes services ReplayData device narrow long short known = (le-leb _ _ long, (le-leb _ _ short, (refl, (refl, (refl, (refl, (refl, (refl, (known, tt)))))))))

pub served_if : (v : Service) (f : ℕ) (d : List ℕ) → is_ok (checked_by v f d) ≡ true → is_served v ≡ true
served_if unserved f d e = cc
served_if (served shares verdict) f d e = refl

module _ (services : Services) (stream : Stream) (narrow : Narrow stream.message_type stream.«module») where
  abbrev pub code_in : Item → Code
  code_in i = code_with stream.message_type i.data_type

  -- as it stands in a packet of this stream
  abbrev pub Fit : Item → Type 0
  Fit i = (i.data_type < 2 ^ 16) × Sound (services (code_in i)) (code_in i) i

  of_first : (i : Item) (is : List Item) → all_of_type i.data_type is ≡ true → AllByRecursion Fit is → AllByRecursion (Sound (services (code_in i)) (code_in i)) is
  of_first i [] e fit = tt
  of_first i (j ∷ js) e fit =
      let both = and_parts (eqb i.data_type j.data_type) (all_of_type i.data_type js) e in
      let same : i.data_type ≡ j.data_type = eqb-true _ _ both.0 in
      (subst (λ n. Sound (services (code_with stream.message_type n)) (code_with stream.message_type n) j) (sym same) fit.0.1, of_first i js both.1 fit.1)

  pub packet_read : (number : ℕ) (i : Item) (is : List Item) → allowed (sharing services stream.message_type) packet_limit (i ∷ is) ≡ true → AllByRecursion Fit (i ∷ is)
      → entries services (Some stream) (packet_bytes stream number (i ∷ is)) ≡ Ok (placed (code_in i) 12 (i ∷ is))
  unfolding packet_bytes
  packet_read number i is ok fit =
      let type : MessageType = stream.message_type in
      let f = fine (sharing services type) packet_limit i is ok in
      let r : List ℕ = flat_map item_bytes (i ∷ is) in
      let s : List ℕ = packet_head stream number i.data_type ++ r in
      let code : Code = code_in i in
      let sound = fit.0.1 in
      let code_is : code_of s ≡ code = code_back number i.data_type r type stream.«module» fit.0.0 in
      let l : length s ≡ 12 + sizes (i ∷ is) = length-packet stream number (i ∷ is) in
      let some = sound.some in
      let within = f.within in
      let is_there : is_served (services (code_of s)) ≡ true = ap (λ c. is_served (services c)) code_is ∙ served_if (services code) i.flags i.bytes sound.passes in
      let head = head_passes number i.data_type r services type stream.«module» narrow (omega arith) (omega arith) is_there in
      tested_passed (head_tests services (Some stream) s) (entries_from (services (code_of s)) (code_of s) s 12) head
      ∙ ap (λ c. entries_by (services c) (shares_in (services c)) c s 12) code_is
      ∙ items_read (services code) (shares_in (services code)) code s (i ∷ is) 12 (omega arith) (sym l)
      (drop_at (packet_head stream number i.data_type) r 12 (length-packet_head stream number i.data_type))
      (sound, of_first i is f.one_type fit.1) (may_first (shares_in (services code)) i is f.may_share)
