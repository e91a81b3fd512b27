-- What the code shows of a word of a copy.
use Rattle.std.specs.Prelude.{◌≡◌, ℕ, List, length, take, drop, Ok, Err, Result}
use Rattle.records.specs.declared.refusal.Refusal.{Refusal}
use Rattle.records.specs.declared.refusal.Refusal.TheVariants.{MalformedCopy}
use Rattle.copy_format.specs.ReadingBack.{Part as Rule, packet_of, closing, malformed}
use Rattle.copy_reader.specs.declared.part.Part.{Part}
use Rattle.copy_reader.specs.declared.part.Part.TheVariants.{Packet, Closing}

-- t is what follows the word
abbrev pub ShowsAfter : Rule → List ℕ → Result Part Refusal → Type 0
ShowsAfter rule t (Ok (Packet bytes)) = (rule ≡ packet_of (length bytes.now)) × (bytes.now ≡ take (length bytes.now) t)
ShowsAfter rule t (Ok (Closing number)) = rule ≡ closing number
ShowsAfter rule t (Err refusal) = (rule ≡ malformed) × (refusal ≡ MalformedCopy)

-- t is what is left of the copy
abbrev pub Shows : Rule → List ℕ → Result Part Refusal → Type 0
Shows rule t shown = ShowsAfter rule (drop 4 t) shown
