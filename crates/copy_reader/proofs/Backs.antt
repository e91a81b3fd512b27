-- A copy that has passed is read back as the rule says. Assumes nothing.
use Rattle.std.proofs.Common.{◌≡◌, ℕ, ◌≤◌, List, length, Ok, Err, sym, refl, ap, ◌∙◌, subst}
use Rattle.std.proofs.lemmas.Bool.{le-leb, cond-true}
use Rattle.records.specs.Services.{Services}
use Rattle.records.specs.Tests.{and_then}
use Rattle.tecmp.specs.Reading.{Entry}
use Rattle.tecmp.specs.declared.head.Stream.{Stream}
use Rattle.copy_format.specs.Cutting.{flat}
use Rattle.copy_format.specs.ReadingBack.{Packets, packets_from, stream_in, largest_copy, read_back}
use Rattle.copy_reader.specs.Cursors.{flattened}
use Rattle.copy_reader.specs.Passing.{tried}

module _ (services : Services) (s : List ℕ) where
  abbrev pub Whole : Stream → Type 0
  Whole stream = (packets : List (List Entry)) × (read_back services s ≡ Ok (record { stream = stream; packets = packets })) × (flattened (packets_from services stream s 0 0) ≡ flat packets)

  pub whole : (stream : Stream) → length s ≤ largest_copy → stream ≡ stream_in s → Ok tt ≡ tried (packets_from services stream s 0 0) → Whole stream
  whole stream small own passed =
      subst Whole (sym own) (go (packets_from services (stream_in s) s 0 0) refl (passed ∙ ap (λ (st : Stream). tried (packets_from services st s 0 0)) own))
    where
      go : (p : Packets) → packets_from services (stream_in s) s 0 0 ≡ p → Ok tt ≡ tried p → Whole (stream_in s)
      go (Ok ps) is e = (
        ps,
        cond-true _ _ _ (le-leb (length s) largest_copy small) ∙ ap (λ (p : Packets). and_then p (λ qs. Ok (record { stream = stream_in s; packets = qs }))) is,
        ap flattened is,
      )
      go (Err w) is e = absurd cc
