-- The law of closed copies. Assumes nothing.
use Rattle.std.proofs.Common.{◌≡◌, ℕ, ◌+◌, ◌<◌, ◌≤◌, eqb, ltb, List, [], ◌∷◌, map, length, take, Some, Ok, refl, sym, ap, ap₂, ◌∙◌, subst, arith}
use Rattle.std.specs.List.{AllByRecursion}
use Rattle.std.proofs.lemmas.List.{length-map}
use Rattle.std.proofs.lemmas.Bool.{eq-eqb, lt-ltb, ltb-true}
use Rattle.records.specs.Codes.{type_number}
use Rattle.records.specs.Services.{Services, LawfulService}
use Rattle.records.specs.declared.code.Code.{Code}
use Rattle.records.specs.declared.refusal.Refusal.TheVariants.{OutputLength, NoEntries}
use Rattle.records.proofs.Tested.{passed, tested_passed}
use Rattle.tecmp.specs.Reading.{Entry}
use Rattle.tecmp.specs.Statements.{stated}
use Rattle.tecmp.specs.declared.head.Stream.{Stream}
use Rattle.copy_format.specs.Cutting.{cut}
use Rattle.copy_format.specs.Image.{packet_limit, packets_of, word, copy_of, image}
use Rattle.copy_format.specs.Items.{item_of, allowed, sharing}
use Rattle.copy_format.specs.ReadingBack.{without_offset, item_read, Contents, entries_of, read_back}
use Rattle.copy_format.proofs.Lengths.{room, length-copy}
use Rattle.copy_format.proofs.Packets.{fewest_packets}
use Rattle.copy_format.proofs.PacketsRead.{Narrow}
use Rattle.copy_format.proofs.Placed.{packets_read, length-packets_placed}
use Rattle.canonical.specs.Calls.{opened, reaching, closing, Closes}
use Rattle.canonical.specs.declared.state.Extent.{Extent}
use Rattle.canonical.specs.Law.{canonical_entry, AddedAgain, Cuts, AnyLog}
use Rattle.canonical.specs.Log.{Log}
use Rattle.canonical.specs.States.{nothing, spliced, after_all, put_all}
use Rattle.canonical.specs.declared.state.Closed.{Closed}
use Rattle.canonical.specs.declared.state.State.{State}
use Rattle.canonical.proofs.Accepted.{Accepted, packets_pass}
use Rattle.canonical.proofs.Again.{stated_read, stated_again, added, adds_all, reaches_all, all_readded, accepted_all, items_again, opens_into, opens_again}
use Rattle.canonical.proofs.Logged.{stands_all, logged, faithful, faithful_closing}
use Rattle.canonical.proofs.ReadsBack.{narrow_own, items_are, contents, image_reads, contents_are}
use Rattle.canonical.proofs.Same.{all_statements, all_items}
use Rattle.canonical.proofs.Stands.{Stands, stands_opened}

module _ (services : Services) (law : (code : Code) → LawfulService (services code)) where
  -- what is known of a closed copy
  record Shut (s : State) (es : List Entry) (c : Closed) (out : List ℕ) : Type 0 where
    before : List ℕ
    stands : Stands services s before es
    answer : closing s ≡ c
    some : 0 < length es
    bytes : take c.bytes out ≡ image services s.stream es

  shut : (s : State) (before : List ℕ) (es : List Entry) (c : Closed) (out : List ℕ) → Log services s before es → Closes s before (Ok c) out → Shut s es c out
  shut s before es c out log closes =
      let st = logged services law log in
      let p = passed ((eqb (length before) s.capacity, OutputLength) ∷ (ltb 0 s.extent.entries, NoEntries) ∷ []) (Ok (closing s)) c (sym closes.0) in
      let answer : closing s ≡ c = let q = p.1 in cc in
      let entries : s.extent.entries ≡ length es = st.holds.entries_are in
      record {
        before = before;
        stands = st;
        answer = answer;
        some = subst (λ n. 0 < n) entries (ltb-true _ _ p.0.1.0);
        bytes = (faithful services law s before c out closes es log).bytes;
      }

  module _ (s : State) (es : List Entry) (c : Closed) (out : List ℕ) (h : Shut s es c out) where
    abbrev stream : Stream
    stream = s.stream

    accepted : AllByRecursion (Accepted services stream) es
    accepted = h.stands.holds.accepted

    narrow : Narrow stream.message_type stream.«module»
    narrow = narrow_own stream.message_type stream.«module» stream h.stands.own

    abbrev held : Contents
    held = contents services law stream narrow es accepted

    short : length (image services stream es) ≤ 16777216
    short =
        let l : length (image services stream es) ≡ room (packets_of services stream es) + 4 = length-copy stream (packets_of services stream es) in
        omega (arith, h.stands.holds.reaches, h.stands.holds.fits, h.stands.lent, h.stands.narrow)

    reads : read_back services (take c.bytes out) ≡ Ok held
    reads = ap (read_back services) h.bytes ∙ image_reads services law stream narrow es accepted h.some short

    gives : map without_offset (entries_of held) ≡ map (canonical_entry services) es
    gives = contents_are services law stream narrow es accepted

    says : map (stated services) (entries_of held) ≡ map (stated services) es
    says = stated_read services (entries_of held) ∙ ap (map (stated services)) gives ∙ stated_again services law stream es accepted

    own_cut : Cuts services stream es (map (map item_read) held.packets)
    own_cut =
        let may = packets_pass services stream law es accepted in
        let own : map (map item_read) held.packets ≡ packets_of services stream es = packets_read stream.message_type (sharing services stream.message_type) packet_limit (packets_of services stream es) 0 may in
        subst (Cuts services stream es) (sym own) (may, items_are services law stream narrow es accepted)

  -- equal bytes, and entries that say the same
  module _ (s s' : State) (es es' : List Entry) (c c' : Closed) (out out' : List ℕ) (h : Shut s es c out) (h' : Shut s' es' c' out') where
    told : take c.bytes out ≡ take c'.bytes out' → (s.stream ≡ s'.stream) × (map (stated services) es ≡ map (stated services) es')
    told e =
        let both : Ok (held s es c out h) ≡ Ok (held s' es' c' out' h') = sym (reads s es c out h) ∙ ap (read_back services) e ∙ reads s' es' c' out' h' in
        let one : held s es c out h ≡ held s' es' c' out' h' = cc in
        let same : map (canonical_entry services) es ≡ map (canonical_entry services) es' =
        sym (gives s es c out h) ∙ ap (λ (k : Contents). map without_offset (entries_of k)) one ∙ gives s' es' c' out' h' in
        (ap (λ (k : Contents). k.stream) one, all_statements services law s.stream s'.stream es es' (accepted s es c out h) (accepted s' es' c' out' h') same)

    equal : (s.stream ≡ s'.stream) × (map (stated services) es ≡ map (stated services) es') → take c.bytes out ≡ take c'.bytes out'
    equal e =
        let items = all_items services law s.stream s'.stream es es' (accepted s es c out h) (accepted s' es' c' out' h') e.1 in
        let same : image services s.stream es ≡ image services s'.stream es' =
        ap₂ (λ (t : Stream) is. copy_of t (cut (allowed (sharing services t.message_type) packet_limit) is)) e.0 items in
        h.bytes ∙ same ∙ sym h'.bytes

  -- added again
  module _ (s : State) (es : List Entry) (c : Closed) (out : List ℕ) (h : Shut s es c out) (output : List ℕ) (room_for : c.bytes ≤ length output) (narrow_output : length output ≤ 16777216) where
    abbrev first : State
    first = record { stream = s.stream; capacity = length output; extent = nothing }

    abbrev rs : List Entry
    rs = entries_of (held s es c out h)

    abbrev ds : List Entry
    ds = map (added s.stream) rs

    abbrev reach : Extent
    reach = after_all services nothing ds

    abbrev last : State
    last = reaching first reach

    abbrev filled : List ℕ
    filled = put_all services s.stream nothing ds output

    abbrev final : List ℕ
    final = spliced filled reach.length (word 2 reach.entries)

    ds_are : ds ≡ map (canonical_entry services) es
    ds_are = all_readded services law s.stream rs es (gives s es c out h) (accepted s es c out h)

    all_accepted : AllByRecursion (Accepted services s.stream) ds
    all_accepted = subst (AllByRecursion (Accepted services s.stream)) (sym ds_are) (accepted_all services law s.stream es (accepted s es c out h))

    packets_same : packets_of services s.stream ds ≡ packets_of services s.stream es
    packets_same =
        ap (packets_of services s.stream) ds_are
        ∙ ap (cut (allowed (sharing services s.stream.message_type) packet_limit)) (items_again services law s.stream es (accepted s es c out h))

    bytes_are : c.bytes ≡ reach.length + 4
    bytes_are =
        ap (λ (k : Closed). k.bytes) (sym h.answer)
        ∙ ap (λ n. n + 4) (h.stands.holds.reaches ∙ ap room (sym packets_same) ∙ sym (reaches_all services law s.stream ds all_accepted))

    fits : reach.length + 4 ≤ length output
    fits = omega (arith, bytes_are, room_for)

    opened_again : opened (type_number s.stream.message_type) s.stream.«module» (length output) ≡ Ok first
    opened_again = opens_again s.stream (length output) h.stands.own (omega (arith, fits)) narrow_output

    stands_first : Stands services first output []
    stands_first =
        stands_opened services (Some s.stream.message_type) s.stream.«module» first output (Some s.stream) h.stands.own
        (opens_into s.stream (length output) (omega (arith, fits)) narrow_output)

    stands_last : Stands services last filled ds
    stands_last = stands_all services law first output [] ds stands_first all_accepted fits

    as_many : length ds ≡ length es
    as_many = ap length ds_are ∙ length-map es (canonical_entry services)

    entries_same : reach.entries ≡ c.entries
    entries_same = stands_last.holds.entries_are ∙ as_many ∙ sym h.stands.holds.entries_are ∙ ap (λ (k : Closed). k.entries) h.answer

    packets_counted : reach.packets ≡ c.packets
    packets_counted = stands_last.holds.packets_are ∙ ap length packets_same ∙ sym h.stands.holds.packets_are ∙ ap (λ (k : Closed). k.packets) h.answer

    closing_same : closing last ≡ c
    closing_same = λ i. record { bytes = sym bytes_are i; entries = entries_same i; packets = packets_counted i }

    closes_again : Closes last filled (Ok c) final
    closes_again =
        let some : 0 < reach.entries = omega (arith, stands_last.holds.entries_are, as_many, h.some) in
        let tests = ((eqb (length filled) last.capacity, OutputLength) ∷ (ltb 0 reach.entries, NoEntries) ∷ []) in
        (sym (tested_passed tests (Ok (closing last)) (eq-eqb _ _ (sym stands_last.lent), (lt-ltb _ _ some, tt)) ∙ ap Ok closing_same), refl)

    added_again : AddedAgain services s.stream rs c (take c.bytes out) output
    added_again = record {
      first = first;
      opens = opened_again;
      last = last;
      filled = filled;
      adds = adds_all services law rs first output [] stands_first all_accepted fits;
      final = final;
      closes = closes_again;
      same_bytes =
          ap (λ (k : Closed). take k.bytes final) (sym closing_same)
          ∙ (faithful_closing services law last filled final ds stands_last refl).bytes
          ∙ ap (copy_of s.stream) packets_same
          ∙ sym h.bytes;
    }

  pub lawful : (s : State) (before : List ℕ) (c : Closed) (out : List ℕ) → Closes s before (Ok c) out → AnyLog services s before c out
  lawful s before c out closes es log =
      let h = shut s before es c out log closes in
      let counted : c.packets ≡ length (packets_of services s.stream es) = ap (λ (k : Closed). k.packets) (sym h.answer) ∙ h.stands.holds.packets_are in (
        faithful services law s before c out closes es log,
        record {
          told_apart = λ s' before' es' c' out' log' closes'.
              let h' = shut s' before' es' c' out' log' closes' in
              (told s s' es es' c c' out out' h h', equal s s' es es' c c' out out' h h');
          contents = held s es c out h;
          reads = reads s es c out h;
          of_stream = refl;
          gives = gives s es c out h;
          says = says s es c out h;
          again_same = added_again s es c out h;
          packets = counted ∙ sym (length-packets_placed s.stream.message_type 0 (packets_of services s.stream es));
          cut = own_cut s es c out h;
          fewest = λ ps cuts.
              let least = fewest_packets (sharing services s.stream.message_type) packet_limit (map (item_of services) es) ps cuts.0 cuts.1 in
              omega (arith, counted, least);
        },
      )
