-- What is read of a LIN frame is read again as itself. Assumes nothing.
use Rattle.std.specs.Prelude.{◌≡◌, ℕ, ◌^◌, ◌<◌, ◌≤◌, Bool, true, false, cond, refl}
use Rattle.std.proofs.Common.{arith}
use Rattle.std.proofs.lemmas.Bool.Decides.{nat_tests}
use Rattle.records.specs.declared.code.MessageType.{MessageType}
use Rattle.records.specs.declared.code.MessageType.TheVariants.{LoggingStream, ReplayData}
use Rattle.records.proofs.Masks.{used_again}
use Rattle.frames.specs.Frames.{Shapely}
use Rattle.kind_lin.specs.Lin.{lin_shape, kept_flags, allows, id_as, checksum_read}

few : (d : MessageType) (g n : ℕ) → allows d g n ≡ true → n ≤ 254
few LoggingStream g n e = grind (arith, nat_tests)
few ReplayData g n e = grind (arith, nat_tests)

mask_fits : (d : MessageType) → kept_flags d < 2 ^ 16
mask_fits LoggingStream = omega arith
mask_fits ReplayData = omega arith

id_again : (d : MessageType) (g x : ℕ) → id_as d g (id_as d g x) ≡ id_as d g x
id_again LoggingStream g x = omega arith
id_again ReplayData g x = grind (arith, nat_tests)

id_below : (d : MessageType) (g x : ℕ) → x < 256 → id_as d g x < 256
id_below LoggingStream g x h = omega arith
id_below ReplayData g x h = grind (arith, nat_tests)

used_below : (b : Bool) (x : ℕ) → x < 256 → cond b x 0 < 256
used_below true x h = h
used_below false x h = omega arith

pub lin_shapely : (d : MessageType) → Shapely (lin_shape d)
lin_shapely d = record {
  head_short = omega arith;
  tail_short = omega arith;
  few = few d;
  mask_fits = mask_fits d;
  head_again = id_again d;
  head_below = id_below d;
  tail_again = λ g n x. used_again (checksum_read d g) x;
  tail_below = λ g n x. used_below (checksum_read d g) x;
  head_count = λ x y. refl;
  head_apart = λ x y e. cc;
  tail_apart = λ x y e. cc;
}
