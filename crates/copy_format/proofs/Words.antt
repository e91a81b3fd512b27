-- Reading a copy back goes on from word to word. Assumes nothing.
use Rattle.std.proofs.Common.{◌≡◌, ℕ, zero, suc, ◌+◌, ◌-◌, ◌≤◌, true, ltb, List, length, take, drop, Some, Ok, Err, Result, sym, refl, ap, length-drop, arith}
use Rattle.std.proofs.lemmas.Bool.{lt-ltb}
use Rattle.records.specs.Services.{Services}
use Rattle.records.specs.Tests.{and_then}
use Rattle.records.specs.declared.refusal.Refusal.TheVariants.{MalformedCopy}
use Rattle.tecmp.specs.Entries.{entries}
use Rattle.tecmp.specs.declared.head.Stream.{Stream}
use Rattle.copy_format.specs.Image.{filling}
use Rattle.copy_format.specs.ReadingBack.{all_moved, Part, packet_of, closing, malformed, part_of, Packets, with_packet, onward, packets_in, ByWords}

then_same : {A B E : Type 0} (r : Result A E) (f g : A → Result B E) → ((x : A) → f x ≡ g x) → and_then r f ≡ and_then r g
then_same (Ok x) f g e = e x
then_same (Err w) f g e = refl

-- nothing is left
malformed_at_end : (t : List ℕ) → length t ≤ 3 → part_of t ≡ malformed
malformed_at_end t h = let e : ltb (length t) 4 ≡ true = lt-ltb _ _ (omega (arith, h)) in rw e refl

module _ (services : Services) (stream : Stream) (s : List ℕ) where
  onward_same : (p : Part) (at count : ℕ) (f g : ℕ → ℕ → Packets) → ((next c : ℕ) → at + 4 ≤ next → f next c ≡ g next c)
      → onward services stream s p at count f ≡ onward services stream s p at count g
  onward_same (packet_of size) at count f g e =
      then_same (all_moved (at + 4) (entries services (Some stream) (take size (drop (at + 4) s)))) _ _
      (λ es. ap (with_packet es) (e (at + 4 + (size + filling size)) (count + length es) (omega arith)))
  onward_same (closing number) at count f g e = refl
  onward_same malformed at count f g e = refl

  ended : (at count : ℕ) (rest : ℕ → ℕ → Packets) → length s ≤ at → onward services stream s (part_of (drop at s)) at count rest ≡ Err MalformedCopy
  ended at count rest h =
      let l = length-drop at s in
      ap (λ p. onward services stream s p at count rest) (malformed_at_end (drop at s) (omega arith))

  -- more steps than there are bytes change nothing
  enough : (n m at count : ℕ) → length s - at ≤ n → length s - at ≤ m → packets_in services stream s n at count ≡ packets_in services stream s m at count
  enough zero zero at count h i = refl
  enough zero (suc m) at count h i = sym (ended at count (packets_in services stream s m) (omega arith))
  enough (suc n) zero at count h i = ended at count (packets_in services stream s n) (omega arith)
  enough (suc n) (suc m) at count h i =
      onward_same (part_of (drop at s)) at count (packets_in services stream s n) (packets_in services stream s m)
      (λ next c far. enough n m next c (omega arith) (omega arith))

pub by_words : ByWords
by_words services stream s at count = enough services stream s (length s) (suc (length s)) at count (omega arith) (omega arith)
