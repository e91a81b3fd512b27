-- Recopying: a canonical copy is its own, and recordings have one canonical copy exactly where they say the same. Assumes nothing.
use Rattle.std.proofs.Common.{◌≡◌, ℕ, ◌≤◌, ◌&&◌, leb, List, [], ◌∷◌, map, length, Ok, refl, sym, ap, ap₂, ◌∙◌, arith}
use Rattle.std.specs.List.{AllByRecursion}
use Rattle.std.proofs.lemmas.List.{length-map}
use Rattle.std.proofs.lemmas.Bool.{and_parts, leb-true}
use Rattle.records.specs.Services.{Services, LawfulService}
use Rattle.records.specs.Tests.{tested, and_then}
use Rattle.records.specs.Verdicts.{Bytes}
use Rattle.records.specs.declared.code.Code.{Code}
use Rattle.records.specs.declared.refusal.Refusal.TheVariants.{OutputFull, OutputLength}
use Rattle.records.proofs.Tested.{passed}
use Rattle.tecmp.specs.Reading.{Entry}
use Rattle.tecmp.specs.declared.head.Stream.{Stream}
use Rattle.copy_format.specs.Cutting.{cut}
use Rattle.copy_format.specs.Image.{packet_limit, packets_of, copy_of, image}
use Rattle.copy_format.specs.Items.{item_of, allowed, sharing}
use Rattle.copy_format.specs.ReadingBack.{without_offset, Contents, entries_of, read_back}
use Rattle.copy_format.proofs.PacketsRead.{Narrow}
use Rattle.canonical.specs.Law.{canonical_entry}
use Rattle.canonical.specs.Recopying.{canonical_bytes, closed_of, recopied_into, SameAgain, OneCopy}
use Rattle.canonical.proofs.Accepted.{Accepted}
use Rattle.canonical.proofs.Again.{items_again}
use Rattle.canonical.proofs.ReadsBack.{contents, image_reads, contents_are}
use Rattle.canonical.proofs.Recordings.{recording_accepted, recording_some, recording_narrow}
use Rattle.canonical.proofs.Same.{all_statements, all_items}

items_read : (services : Services) (rs : List Entry) → map (item_of services) rs ≡ map (item_of services) (map without_offset rs)
items_read services [] = refl
items_read services (r ∷ rs) = ap (λ xs. item_of services r ∷ xs) (items_read services rs)

-- the packets are those of the items
packets_by_items : (services : Services) (t u : Stream) (es fs : List Entry) → t ≡ u → map (item_of services) es ≡ map (item_of services) fs
    → (packets_of services t es ≡ packets_of services u fs) × (image services t es ≡ image services u fs)
packets_by_items services t u es fs e q = (
  ap₂ (λ (v : Stream) is. cut (allowed (sharing services v.message_type) packet_limit) is) e q,
  ap₂ (λ (v : Stream) is. copy_of v (cut (allowed (sharing services v.message_type) packet_limit) is)) e q,
)

module _ (services : Services) (law : (code : Code) → LawfulService (services code)) where
  -- what a recording's canonical copy is read back as
  module _ (s : List ℕ) (b : Bytes s) (k : Contents) (ok : read_back services s ≡ Ok k) where
    es : List Entry
    es = entries_of k

    accepted : AllByRecursion (Accepted services k.stream) (entries_of k)
    accepted = recording_accepted services s b k ok

    narrow : Narrow k.stream.message_type k.stream.«module»
    narrow = recording_narrow services s b k ok

    abbrev held : Contents
    held = contents services law k.stream narrow (entries_of k) accepted

    reads_again : length (canonical_bytes services k) ≤ 16777216 → read_back services (canonical_bytes services k) ≡ Ok held
    reads_again short = image_reads services law k.stream narrow (entries_of k) accepted (recording_some services s b k ok) short

    held_are : map without_offset (entries_of held) ≡ map (canonical_entry services) (entries_of k)
    held_are = contents_are services law k.stream narrow (entries_of k) accepted

    items_same : map (item_of services) (entries_of held) ≡ map (item_of services) (entries_of k)
    items_same = items_read services (entries_of held) ∙ ap (map (item_of services)) held_are ∙ items_again services law k.stream (entries_of k) accepted

  pub same_again : SameAgain services
  same_again s k lent c b ok done =
      let p = passed ((leb 4 lent && leb lent 16777216, OutputLength) ∷ (leb (length (canonical_bytes services k)) lent, OutputFull) ∷ []) (Ok (closed_of services k)) c done in
      let high : lent ≤ 16777216 = leb-true _ _ (and_parts (leb 4 lent) (leb lent 16777216) p.0.0).1 in
      let room : length (canonical_bytes services k) ≤ lent = leb-true _ _ p.0.1.0 in
      let again : Contents = held s b k ok in
      let reads : read_back services (canonical_bytes services k) ≡ Ok again = reads_again s b k ok (omega arith) in
      let items = items_same s b k ok in
      let same = packets_by_items services k.stream k.stream (entries_of again) (entries_of k) refl items in
      let many : length (entries_of again) ≡ length (entries_of k) = sym (length-map (entries_of again) (item_of services)) ∙ ap length items ∙ length-map (entries_of k) (item_of services) in
      let closed_same : closed_of services again ≡ closed_of services k = λ i. record { bytes = length (same.1 i); entries = many i; packets = length (same.0 i) } in
      let into : recopied_into services lent again ≡ recopied_into services lent k = ap₂ (λ n x. tested ((leb 4 lent && leb lent 16777216, OutputLength) ∷ (leb n lent, OutputFull) ∷ []) (Ok x)) (ap length same.1) closed_same in
      (again, reads, ap (λ r. and_then r (recopied_into services lent)) reads ∙ into ∙ done, same.1)

  pub one_copy : OneCopy services
  one_copy s t k l b b' ok ok' = (
    λ e.
        (packets_by_items services k.stream l.stream (entries_of k) (entries_of l) e.0
        (all_items services law k.stream l.stream (entries_of k) (entries_of l) (accepted s b k ok) (accepted t b' l ok') e.1)).1,
    λ short short' e.
        let both : Ok (held s b k ok) ≡ Ok (held t b' l ok') = sym (reads_again s b k ok short) ∙ ap (read_back services) e ∙ reads_again t b' l ok' short' in
        let one : held s b k ok ≡ held t b' l ok' = cc in
        let same : map (canonical_entry services) (entries_of k) ≡ map (canonical_entry services) (entries_of l) =
        sym (held_are s b k ok) ∙ ap (λ (h : Contents). map without_offset (entries_of h)) one ∙ held_are t b' l ok' in
        (ap (λ (h : Contents). h.stream) one, all_statements services law k.stream l.stream (entries_of k) (entries_of l) (accepted s b k ok) (accepted t b' l ok') same),
  )
