-- Testing without keeping: whether it passes, or the refusal.
use Rattle.std.specs.Prelude.{◌≡◌, ℕ, List, Ok, Err, Result}
use Rattle.records.specs.Services.{Services}
use Rattle.records.specs.declared.refusal.Refusal.{Refusal}
use Rattle.tecmp.specs.declared.head.Stream.{Stream}
use Rattle.copy_format.specs.ReadingBack.{Packets, packets_from, stream_in}

abbrev pub tried : Packets → Result Unit Refusal
tried (Ok ps) = Ok tt
tried (Err refusal) = Err refusal

-- the stream of a copy, or the refusal of the copy
abbrev pub Streams : Services → List ℕ → Result Stream Refusal → Type 0
Streams services s (Ok stream) = stream ≡ stream_in s
Streams services s (Err refusal) = packets_from services (stream_in s) s 0 0 ≡ Err refusal
