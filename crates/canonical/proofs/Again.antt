-- Entries that were read, added again to a new copy, are each accepted. Assumes nothing.
use Rattle.std.proofs.Common.{◌≡◌, ℕ, ◌+◌, ◌≤◌, List, [], ◌∷◌, ◌++◌, map, length, replicate, Some, Ok, refl, sym, ap, ap₂, ◌∙◌, arith}
use Rattle.std.specs.List.{AllByRecursion}
use Rattle.std.proofs.ByRecursion.{All-map, All-weaker}
use Rattle.std.proofs.lemmas.List.{length-replicate}
use Rattle.std.proofs.lemmas.Bool.{le-leb, lt-ltb, eq-eqb, and_from}
use Rattle.records.specs.Codes.{code_with, type_number, type_of}
use Rattle.records.specs.Services.{Services, LawfulService, canonical_flags_by, canonical_by}
use Rattle.records.specs.Tests.{Passed}
use Rattle.records.specs.declared.code.Code.{Code}
use Rattle.records.specs.declared.code.MessageType.{MessageType}
use Rattle.records.specs.declared.code.MessageType.TheVariants.{LoggingStream, ReplayData}
use Rattle.records.proofs.Served.{canonical_by_lem}
use Rattle.records.proofs.Tested.{tested_passed}
use Rattle.tecmp.specs.Layout.{time_of}
use Rattle.tecmp.specs.Reading.{Entry}
use Rattle.tecmp.specs.Statements.{Statement, stated}
use Rattle.tecmp.specs.declared.head.Stream.{Stream}
use Rattle.copy_format.specs.Image.{packets_of}
use Rattle.copy_format.specs.Items.{item_of}
use Rattle.copy_format.specs.ReadingBack.{without_offset}
use Rattle.copy_format.proofs.Lengths.{room}
use Rattle.copy_format.proofs.PacketsRead.{served_if}
use Rattle.canonical.specs.Calls.{stream_of, opened_into, opened, entry_of, reaching, add_tests, Adds}
use Rattle.canonical.specs.declared.state.Extent.{Extent}
use Rattle.canonical.specs.Law.{canonical_entry, again, AddsAll}
use Rattle.canonical.specs.States.{nothing, after, put, after_all, put_all}
use Rattle.canonical.specs.declared.state.State.{State}
use Rattle.canonical.proofs.Accepted.{Accepted}
use Rattle.canonical.proofs.Encodings.{accepted_again, item_again, says_again}
use Rattle.canonical.proofs.Growth.{grows_all, holds_all}
use Rattle.canonical.proofs.Logged.{stands_all}
use Rattle.canonical.proofs.Stands.{Stands}

-- what entries say does not hang on where they stood
pub stated_read : (services : Services) (rs : List Entry) → map (stated services) rs ≡ map (stated services) (map without_offset rs)
stated_read services [] = refl
stated_read services (r ∷ rs) = ap (λ xs. stated services r ∷ xs) (stated_read services rs)

pub stated_again : (services : Services) → ((code : Code) → LawfulService (services code)) → (stream : Stream) (es : List Entry) → AllByRecursion (Accepted services stream) es
    → map (stated services) (map (canonical_entry services) es) ≡ map (stated services) es
stated_again services law stream [] a = refl
stated_again services law stream (e ∷ es) a = ap₂ {C = List Statement} (λ x xs. x ∷ xs) (says_again services law stream e a.0) (stated_again services law stream es a.1)

-- the entry that `add` makes of one that was read
abbrev pub added : Stream → Entry → Entry
added stream r = entry_of stream (again r)

module _ (services : Services) (law : (code : Code) → LawfulService (services code)) where
  module _ (s : State) (out : List ℕ) (es : List Entry) (st : Stands services s out es) (d : Entry) (a : Accepted services s.stream d)
      (fits : (after services s.extent d).length + 4 ≤ s.capacity) where
    passes_add : Passed (add_tests services s d (length out))
    passes_add =
        let c = canonical_by_lem (services d.code) (law d.code) d.flags d.bytes a.flags_fit a.are_bytes a.passes in (
          eq-eqb _ _ (sym st.lent),
          (lt-ltb _ _ c.2, (le-leb _ _ c.1, (a.timed, (served_if (services d.code) d.flags d.bytes a.passes, (a.passes, (le-leb _ _ fits, tt)))))),
        )

  -- one after the other, in a copy that stands for others already
  pub adds_all : (rs : List Entry) (s : State) (out : List ℕ) (es : List Entry) → Stands services s out es → AllByRecursion (Accepted services s.stream) (map (added s.stream) rs)
      → (after_all services s.extent (map (added s.stream) rs)).length + 4 ≤ s.capacity
      → AddsAll services s out rs (reaching s (after_all services s.extent (map (added s.stream) rs))) (put_all services s.stream s.extent (map (added s.stream) rs) out)
  adds_all [] s out es st a fits = (refl, refl)
  adds_all (r ∷ rs) s out es st a fits =
      let d : Entry = added s.stream r in
      let x : Extent = after services s.extent d in
      let g : x.length ≤ (after_all services x (map (added s.stream) rs)).length = grows_all services x (map (added s.stream) rs) refl in
      let own : x.length + 4 ≤ s.capacity = omega (arith, fits) in
      let next : State = reaching s x in
      let o : List ℕ = put services s.stream s.extent d out in
      let done : Adds services s out (again r) (Ok tt) next o = (sym (tested_passed (add_tests services s d (length out)) (Ok tt) (passes_add s out es st d a.0 own)), (refl, refl)) in
      (next, o, done, adds_all rs next o (es ++ d ∷ []) (stands_all services law s out es (d ∷ []) st (a.0, tt) own) a.1 fits)

  -- how far a copy reaches with entries that it accepts, whatever its output
  pub reaches_all : (stream : Stream) (es : List Entry) → AllByRecursion (Accepted services stream) es → (after_all services nothing es).length ≡ room (packets_of services stream es)
  reaches_all stream es a =
      let n : ℕ = (after_all services nothing es).length + 4 in
      let out : List ℕ = replicate n 0 in
      let l : length out ≡ n = length-replicate {A = ℕ} n 0 in
      (holds_all services law stream nothing out [] es
      (record { fits = omega arith; written = refl; reaches = refl; entries_are = refl; packets_are = refl; last_is = refl; accepted = tt }) a (omega arith)).1.reaches

  module _ (stream : Stream) where
    readded : (r e : Entry) → without_offset r ≡ canonical_entry services e → Accepted services stream e → added stream r ≡ canonical_entry services e
    readded r e q a =
        let code : r.code ≡ e.code = ap (λ (x : Entry). x.code) q in
        let own : code_with stream.message_type r.code.data_type ≡ e.code = ap (λ (c : Code). code_with stream.message_type c.data_type) code ∙ ap (λ t. code_with t e.code.data_type) (sym a.of_stream) in
        let interface : r.interface ≡ e.interface = ap (λ (x : Entry). x.interface) q in
        let time : time_of stream.message_type r.time ≡ e.time = ap (λ (x : Entry). time_of stream.message_type x.time) q ∙ a.time_whole in
        let flags : r.flags ≡ canonical_flags_by (services e.code) e.flags e.bytes = ap (λ (x : Entry). x.flags) q in
        let bytes : r.bytes ≡ canonical_by (services e.code) e.flags e.bytes = ap (λ (x : Entry). x.bytes) q in
        λ i. record { code = own i; interface = interface i; time = time i; flags = flags i; bytes = bytes i; from = 0 }

    pub all_readded : (rs es : List Entry) → map without_offset rs ≡ map (canonical_entry services) es → AllByRecursion (Accepted services stream) es
        → map (added stream) rs ≡ map (canonical_entry services) es
    all_readded [] [] q a = refl
    all_readded [] (e ∷ es) q a = cc
    all_readded (r ∷ rs) [] q a = cc
    all_readded (r ∷ rs) (e ∷ es) q a =
        let head : without_offset r ≡ canonical_entry services e = cc in
        let tail : map without_offset rs ≡ map (canonical_entry services) es = cc in
        ap₂ {C = List Entry} (λ x xs. x ∷ xs) (readded r e head a.0) (all_readded rs es tail a.1)

    pub accepted_all : (es : List Entry) → AllByRecursion (Accepted services stream) es → AllByRecursion (Accepted services stream) (map (canonical_entry services) es)
    accepted_all es a =
        All-map (Accepted services stream) (canonical_entry services) es
        (All-weaker (Accepted services stream) (λ e. Accepted services stream (canonical_entry services e)) (λ e b. accepted_again services law stream e b) es a)

    pub items_again : (es : List Entry) → AllByRecursion (Accepted services stream) es → map (item_of services) (map (canonical_entry services) es) ≡ map (item_of services) es
    items_again [] a = refl
    items_again (e ∷ es) a = ap₂ (λ x xs. x ∷ xs) (item_again services law stream e a.0) (items_again es a.1)

-- a new copy of a stream that was opened before
pub opens_into : (stream : Stream) (lent : ℕ) → 4 ≤ lent → lent ≤ 16777216 → opened_into lent (Some stream) ≡ Ok (record { stream = stream; capacity = lent; extent = nothing })
opens_into stream lent low high = rw (and_from _ _ (le-leb 4 lent low) (le-leb lent 16777216 high)) refl

pub opens_again : (stream : Stream) (lent : ℕ) → stream_of (Some stream.message_type) stream.«module» ≡ Some stream → 4 ≤ lent → lent ≤ 16777216
    → opened (type_number stream.message_type) stream.«module» lent ≡ Ok (record { stream = stream; capacity = lent; extent = nothing })
opens_again stream lent own low high =
    ap (λ o. opened_into lent (stream_of o stream.«module»)) (number_back stream.message_type) ∙ ap (opened_into lent) own ∙ opens_into stream lent low high
  where
    number_back : (type : MessageType) → type_of (type_number type) ≡ Some type
    number_back LoggingStream = refl
    number_back ReplayData = refl
