-- What recopying answers, and what the output then holds. Assumes nothing.
use Rattle.std.proofs.Common.{◌≡◌, ℕ, ◌+◌, ◌≤◌, true, false, leb, eqb, List, [], ◌∷◌, ◌++◌, length, drop, is_ok, Some, Ok, Err, refl, sym, ap, ap₂, ◌∙◌, subst, arith}
use Rattle.std.specs.List.{AllByRecursion}
use Rattle.std.proofs.ByRecursion.{All-weaker}
use Rattle.std.proofs.lemmas.List.{take-append-drop}
use Rattle.std.proofs.lemmas.Bool.{leb-true, le-leb, and_parts, eq-eqb, cond-true}
use Rattle.records.specs.Services.{Services, LawfulService, checked_by}
use Rattle.records.specs.Tests.{and_then}
use Rattle.records.specs.Verdicts.{Bytes}
use Rattle.records.specs.declared.code.Code.{Code}
use Rattle.records.specs.declared.code.MessageType.{MessageType}
use Rattle.records.specs.declared.code.MessageType.TheVariants.{LoggingStream, ReplayData}
use Rattle.records.specs.declared.refusal.Refusal.{Refusal}
use Rattle.records.specs.declared.refusal.Refusal.TheVariants.{OutputFull, OutputLength}
use Rattle.records.proofs.Tested.{tested_passed}
use Rattle.tecmp.specs.Reading.{Entry}
use Rattle.copy_format.specs.Image.{packets_of, word}
use Rattle.copy_format.specs.ReadingBack.{Contents, entries_of, read_back}
use Rattle.copy_format.proofs.Lengths.{length-word, length-copy}
use Rattle.copy_format.proofs.PacketsRead.{Narrow}
use Rattle.canonical.specs.Calls.{may_open, stream_of, reaching, closing}
use Rattle.canonical.specs.declared.state.Extent.{Extent}
use Rattle.canonical.specs.Log.{Faithful}
use Rattle.canonical.specs.Recopying.{Served, canonical_bytes, closed_of, recopied_into, recopied, Written, Recopies}
use Rattle.canonical.specs.States.{nothing, spliced, after_all, put_all}
use Rattle.canonical.specs.declared.state.Closed.{Closed}
use Rattle.canonical.specs.declared.state.State.{State}
use Rattle.canonical.proofs.Accepted.{Accepted}
use Rattle.canonical.proofs.Again.{opens_into, reaches_all}
use Rattle.canonical.proofs.Beyond.{drop_spliced, beyond}
use Rattle.canonical.proofs.Logged.{stands_all, faithful_closing}
use Rattle.canonical.proofs.Recordings.{recording_accepted, recording_narrow}
use Rattle.canonical.proofs.Stands.{Stands, stands_opened}

own_narrow : (type : MessageType) (device : ℕ) → Narrow type device → stream_of (Some type) device ≡ Some (record { message_type = type; «module» = device })
own_narrow LoggingStream device h = cond-true (leb device 255) _ _ (le-leb device 255 h)
own_narrow ReplayData device h = cond-true (eqb device 0) _ _ (eq-eqb device 0 h)

-- reading back refuses
pub not_read : (services : Services) (recording out : List ℕ) (w : Refusal) → read_back services recording ≡ Err w → Recopies services recording out (Err w) out
not_read services recording out w e = (ap (λ r. and_then r (recopied_into services (length out))) (sym e), refl)

module _ (services : Services) (law : (code : Code) → LawfulService (services code)) (recording : List ℕ) (b : Bytes recording) (k : Contents) (read : read_back services recording ≡ Ok k) (out : List ℕ) where
  es : List Entry
  es = entries_of k

  accepted : AllByRecursion (Accepted services k.stream) (entries_of k)
  accepted = recording_accepted services recording b k read

  pub served : Served services (entries_of k)
  served = All-weaker (Accepted services k.stream) (λ e. is_ok (checked_by (services e.code) e.flags e.bytes) ≡ true) (λ e a. a.passes) (entries_of k) accepted

  abbrev reach : Extent
  reach = after_all services nothing (entries_of k)

  bytes_are : length (canonical_bytes services k) ≡ reach.length + 4
  bytes_are = length-copy k.stream (packets_of services k.stream (entries_of k)) ∙ ap (λ n. n + 4) (sym (reaches_all services law k.stream (entries_of k) accepted))

  by_output : recopied services recording (length out) ≡ recopied_into services (length out) k
  by_output = ap (λ r. and_then r (recopied_into services (length out))) read

  pub wrong_length : may_open (length out) ≡ false → Recopies services recording out (Err OutputLength) out
  wrong_length e = (sym (by_output ∙ rw e refl), refl)

  pub no_room : may_open (length out) ≡ true → leb (reach.length + 4) (length out) ≡ false → Recopies services recording out (Err OutputFull) out
  no_room e full = (sym (by_output ∙ rw (e, bytes_are, full) refl), refl)

  module _ (e : may_open (length out) ≡ true) (room_for : leb (reach.length + 4) (length out) ≡ true) where
    fits : reach.length + 4 ≤ length out
    fits = leb-true _ _ room_for

    abbrev filled : List ℕ
    filled = put_all services k.stream nothing (entries_of k) out

    abbrev final : List ℕ
    final = spliced filled reach.length (word 2 reach.entries)

    abbrev first : State
    first = record { stream = k.stream; capacity = length out; extent = nothing }

    abbrev last : State
    last = reaching first reach

    stands : Stands services last filled (entries_of k)
    stands =
        let both = and_parts (leb 4 (length out)) (leb (length out) 16777216) e in
        let own : stream_of (Some k.stream.message_type) k.stream.«module» ≡ Some k.stream = own_narrow k.stream.message_type k.stream.«module» (recording_narrow services recording b k read) in
        let opened = stands_opened services (Some k.stream.message_type) k.stream.«module» first out (Some k.stream) own (opens_into k.stream (length out) (leb-true _ _ both.0) (leb-true _ _ both.1)) in
        stands_all services law first out [] (entries_of k) opened accepted fits

    faithful : Faithful services last (entries_of k) (closing last) final
    faithful = faithful_closing services law last filled final (entries_of k) stands refl

    closed_is : closing last ≡ closed_of services k
    closed_is = λ i. record { bytes = sym bytes_are i; entries = faithful.entries i; packets = faithful.packets i }

    past : drop (reach.length + 4) final ≡ drop (reach.length + 4) out
    past =
        let w = length-word 2 reach.entries in
        let kept = beyond services k.stream nothing out (entries_of k) (omega (arith, fits)) in
        drop_spliced filled (word 2 reach.entries) reach.length (reach.length + 4) (omega (arith, fits, kept.0, w)) (omega (arith, w))
        ∙ kept.1 (reach.length + 4) (omega arith)

    into : recopied_into services (length out) k ≡ Ok (closed_of services k)
    into =
        let room : leb (length (canonical_bytes services k)) (length out) ≡ true = ap (λ n. leb n (length out)) bytes_are ∙ room_for in
        tested_passed ((may_open (length out), OutputLength) ∷ (leb (length (canonical_bytes services k)) (length out), OutputFull) ∷ []) (Ok (closed_of services k)) (e, (room, tt))

    copied : Recopies services recording out (Ok (closing last)) final
    copied = (
      ap Ok closed_is ∙ sym (by_output ∙ into),
      subst (λ r. Written services r (closing last) out final) (sym read)
          (sym (take-append-drop (reach.length + 4) final) ∙ ap₂ {C = List ℕ} (λ x y. x ++ y) faithful.bytes past),
    )

    pub copied_as : (c : Closed) (out' : List ℕ) → c ≡ closing last → out' ≡ final → Recopies services recording out (Ok c) out'
    copied_as c out' answer written = subst (λ o. Recopies services recording out (Ok c) o) (sym written) (subst (λ d. Recopies services recording out (Ok d) final) (sym answer) copied)
