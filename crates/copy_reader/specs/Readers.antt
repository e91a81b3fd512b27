-- What a reader of a copy hands out.
use Rattle.std.specs.Prelude.{◌≡◌, ℕ, List, Ok, Err, Option, Result}
use Rattle.std.specs.Iterator.{YieldsFirstBy}
use Rattle.records.specs.declared.refusal.Refusal.{Refusal}
use Rattle.records.specs.declared.registry.Registry.{Ghosts}
use Rattle.tecmp.specs.Reading.{Entry}
use Rattle.tecmp.specs.Views.{viewed}
use Rattle.tecmp.specs.declared.entry.EntryView.{EntryView}
use Rattle.tecmp.specs.declared.head.Stream.{Stream}
use Rattle.copy_format.specs.Cutting.{flat}
use Rattle.copy_format.specs.ReadingBack.{read_back}
use Rattle.copy_reader.specs.Cursors.{Alike, left_from}
use Rattle.copy_reader.specs.declared.reader.CopyReader.{CopyReader}

module _ {R : Type 0} {ghosts : Ghosts R} where
  abbrev pub stream_of : CopyReader R ghosts → Stream
  stream_of reader = reader.cursor.stream

  -- the entries that it has still to hand out
  abbrev pub left : CopyReader R ghosts → List Entry
  left reader = left_from ghosts.services reader.cursor

  -- what `read_back` answers: the rule's refusal, or a reader of the stream and the entries that the rule gives
  abbrev pub Back : R → List ℕ → Result (CopyReader R ghosts) Refusal → Type 0
  Back registry s (Err refusal) = read_back (ghosts.services registry) s ≡ Err refusal
  Back registry s (Ok reader) =
      (packets : List (List Entry))
      × (read_back (ghosts.services registry) s ≡ Ok (record { stream = stream_of reader; packets = packets }))
      × (left reader ≡ flat packets)

  -- a step hands out the first entry that is left, and leaves the others; where none is left, none
  abbrev pub Steps : CopyReader R ghosts → Option EntryView → CopyReader R ghosts → Type 0
  Steps before given after = YieldsFirstBy viewed left before given after × Alike after.cursor before.cursor
