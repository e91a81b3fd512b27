-- What the code shows of a word where it stands in a copy. Assumes nothing.
use Rattle.std.proofs.Common.{◌≡◌, ℕ, ◌-◌, List, length, take, drop, Ok, Err, Bor, subst}
use Rattle.std.proofs.lemmas.List.{take_rest}
use Rattle.records.specs.declared.refusal.Refusal.{Refusal}
use Rattle.records.specs.declared.refusal.Refusal.TheVariants.{MalformedCopy}
use Rattle.copy_format.specs.ReadingBack.{packet_of, closing, malformed, part_of}
use Rattle.copy_reader.specs.Parts.{Shows}
use Rattle.copy_reader.specs.declared.part.Part.{Part}
use Rattle.copy_reader.specs.declared.part.Part.TheVariants.{Packet, Closing}

module _ (s : List ℕ) (at : ℕ) where
  abbrev rest : List ℕ
  rest = take (length s - at) (drop at s)

  pub packet_shown : (part : Part) (bytes : Bor (List ℕ)) → Shows (part_of rest) rest (Ok part) → part ≡ Packet bytes
      → (part_of (drop at s) ≡ packet_of (length bytes.now)) × (bytes.now ≡ take (length bytes.now) (drop 4 (drop at s)))
  packet_shown part bytes shows is =
      subst (λ t. Shows (part_of t) t (Ok (Packet bytes))) (take_rest s at) (subst (λ p. Shows (part_of rest) rest (Ok p)) is shows)

  pub closing_shown : (part : Part) (total : ℕ) → Shows (part_of rest) rest (Ok part) → part ≡ Closing total → part_of (drop at s) ≡ closing total
  closing_shown part total shows is =
      subst (λ t. Shows (part_of t) t (Ok (Closing total))) (take_rest s at) (subst (λ p. Shows (part_of rest) rest (Ok p)) is shows)

  pub malformed_shown : (w : Refusal) → Shows (part_of rest) rest (Err w) → (part_of (drop at s) ≡ malformed) × (w ≡ MalformedCopy)
  malformed_shown w shows = subst (λ t. Shows (part_of t) t (Err w)) (take_rest s at) shows
