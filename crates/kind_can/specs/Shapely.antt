-- CAN frames are shapely, so their kinds are lawful. Assumes nothing.
use Rattle.std.specs.Prelude.{◌≡◌, ℕ, ◌^◌, ◌<◌, ◌≤◌, Bool, true, false, cond, refl}
use Rattle.std.proofs.Math.Nat.{mod-mod, mod-le}
use Rattle.std.proofs.Common.{arith}
use Rattle.std.proofs.lemmas.Nat.{and_le_r}
use Rattle.std.proofs.lemmas.Bool.Decides.{nat_tests}
use Rattle.records.specs.declared.code.MessageType.{MessageType}
use Rattle.records.specs.declared.code.MessageType.TheVariants.{LoggingStream, ReplayData}
use Rattle.records.specs.Codecs.{verdict_of}
use Rattle.records.specs.Verdicts.{Lawful}
use Rattle.records.proofs.Masks.{kept_again, used_again}
use Rattle.frames.specs.Frames.{Shapely, codec}
use Rattle.frames.specs.Law.{frame_lawful}
use Rattle.records.specs.Flags.{flag}
use Rattle.kind_can.specs.declared.frame.Protocol.{Protocol}
use Rattle.kind_can.specs.declared.frame.Protocol.TheVariants.{Classic, Fd}
use Rattle.kind_can.specs.declared.frame.CanFrame.{CanFrame}
use Rattle.kind_can.specs.Can.{can_shape, kept_flags, allows_count, crc_length, crc_bits, crc_read}

mask_fits : (p : Protocol) (d : MessageType) → kept_flags p d < 2 ^ 16
mask_fits Classic LoggingStream = omega arith
mask_fits Classic ReplayData = omega arith
mask_fits Fd LoggingStream = omega arith
mask_fits Fd ReplayData = omega arith

few : (p : Protocol) (g n : ℕ) → allows_count p g n ≡ true → n ≤ 254
few Classic g n e = grind (arith, nat_tests)
few Fd g n e = grind (arith, nat_tests)

crc_short : (p : Protocol) → crc_length p ≤ 8
crc_short Classic = omega arith
crc_short Fd = omega arith

crc_again : (p : Protocol) (d : MessageType) (g n x : ℕ) → crc_read p d g n (crc_read p d g n x) ≡ crc_read p d g n x
crc_again p LoggingStream g n x = mod-mod x (2 ^ crc_bits p n)
crc_again p ReplayData g n x = used_again (flag g 13) x

used_le : (b : Bool) (x : ℕ) → cond b x 0 ≤ x
used_le true x = omega arith
used_le false x = omega arith

crc_le : (p : Protocol) (d : MessageType) (g n x : ℕ) → crc_read p d g n x ≤ x
crc_le p LoggingStream g n x = mod-le x (2 ^ crc_bits p n)
crc_le p ReplayData g n x = used_le (flag g 13) x

pub can_shapely : (k : CanFrame) → Shapely (can_shape k)
can_shapely k = record {
  head_short = omega arith;
  tail_short = crc_short k.protocol;
  few = few k.protocol;
  mask_fits = mask_fits k.protocol k.direction;
  head_again = λ g x. kept_again 0x9FFFFFFF x;
  head_below = λ g x h. omega (arith, and_le_r x 0x9FFFFFFF);
  tail_again = crc_again k.protocol k.direction;
  tail_below = λ g n x h. omega (arith, crc_le k.protocol k.direction g n x);
  head_count = λ x y. refl;
  head_apart = λ x y e. cc;
  tail_apart = λ x y e. cc;
}

pub can_lawful : (k : CanFrame) → Lawful (verdict_of (codec (can_shape k)))
can_lawful k = frame_lawful (can_shape k) (can_shapely k)
