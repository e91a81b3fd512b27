-- Fields of bytes are within their widths, and times within theirs. Assumes nothing.
use Rattle.std.proofs.Common.{◌≡◌, ℕ, zero, suc, ◌+◌, ◌^◌, ◌<◌, true, List, [], ◌∷◌, get_or, refl, arith}
use Rattle.std.proofs.lemmas.Nat.{and_le_l}
use Rattle.records.proofs.Masks.{kept_again}
use Rattle.records.specs.Verdicts.{Bytes}
use Rattle.records.specs.declared.code.MessageType.{MessageType}
use Rattle.records.specs.declared.code.MessageType.TheVariants.{LoggingStream, ReplayData}
use Rattle.tecmp.specs.Layout.{be2, be4, be8, time_of, has_time}

pub byte_below : (s : List ℕ) (at : ℕ) → Bytes s → get_or s at 0 < 256
byte_below [] at b = omega arith
byte_below (x ∷ s) zero b = b.0
byte_below (x ∷ s) (suc at) b = byte_below s at b.1

module _ (s : List ℕ) (at : ℕ) (b : Bytes s) where
  pub be2_below : be2 s at < 2 ^ 16
  be2_below = omega (arith, byte_below s at b, byte_below s (at + 1) b)

  pub be4_below : be4 s at < 2 ^ 32
  be4_below = omega (arith, byte_below s at b, byte_below s (at + 1) b, byte_below s (at + 2) b, byte_below s (at + 3) b)

  pub be8_below : be8 s at < 2 ^ 64
  be8_below =
      omega (
        arith,
        byte_below s at b,
        byte_below s (at + 1) b,
        byte_below s (at + 2) b,
        byte_below s (at + 3) b,
        byte_below s (at + 4) b,
        byte_below s (at + 5) b,
        byte_below s (at + 6) b,
        byte_below s (at + 7) b,
      )

pub time_below : (type : MessageType) (word : ℕ) → word < 2 ^ 64 → time_of type word < 2 ^ 64
time_below LoggingStream word h = h
time_below ReplayData word h = let l = and_le_l word 4611686018427387903 in omega arith

-- a time's own time is that time
pub time_again : (type : MessageType) (word : ℕ) → time_of type (time_of type word) ≡ time_of type word
time_again LoggingStream word = refl
time_again ReplayData word = kept_again 4611686018427387903 word

pub time_kept : (type : MessageType) (word : ℕ) → has_time type word ≡ true → has_time type (time_of type word) ≡ true
time_kept LoggingStream word h = h
time_kept ReplayData word h = refl
