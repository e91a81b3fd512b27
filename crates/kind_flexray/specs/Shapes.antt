-- What is read of a FlexRay frame is read again as itself. Assumes nothing.
use Rattle.std.specs.Prelude.{◌≡◌, ℕ, ◌+◌, ◌*◌, ◌/◌, ◌%◌, ◌^◌, ◌<◌, ◌≤◌, Bool, true, false, cond, [], ◌∷◌, refl}
use Rattle.std.proofs.Common.{sym, ap, ◌∙◌, arith}
use Rattle.std.proofs.lemmas.Nat.{div-add-mod'}
use Rattle.std.proofs.lemmas.Bool.{leb-true}
use Rattle.records.specs.declared.code.MessageType.{MessageType}
use Rattle.records.specs.declared.code.MessageType.TheVariants.{LoggingStream, ReplayData}
use Rattle.frames.specs.Frames.{Shapely}
use Rattle.records.specs.Flags.{flag}
use Rattle.kind_flexray.specs.FlexRay.{flex_ray_shape, kept_flags, tail_length, tail_fields, tail_as}

mask_fits : (d : MessageType) → kept_flags d < 2 ^ 16
mask_fits LoggingStream = omega arith
mask_fits ReplayData = omega arith

tail_short : (d : MessageType) → tail_length d ≤ 8
tail_short LoggingStream = omega arith
tail_short ReplayData = omega arith

-- the header CRC is left out or kept
kept_again : (b : Bool) (x : ℕ) → cond b (cond b x (x / 65536 * 65536)) (cond b x (x / 65536 * 65536) / 65536 * 65536) ≡ cond b x (x / 65536 * 65536)
kept_again true x = refl
kept_again false x = omega arith

kept_below : (b : Bool) (x : ℕ) → x < 2 ^ 24 → cond b x (x / 65536 * 65536) < 2 ^ 24
kept_below true x h = h
kept_below false x h = omega arith

tail_again : (d : MessageType) (g x : ℕ) → tail_as d g (tail_as d g x) ≡ tail_as d g x
tail_again LoggingStream g x = refl
tail_again ReplayData g x = kept_again (flag g 12) x

tail_below : (d : MessageType) (g x : ℕ) → x < 2 ^ (8 * tail_length d) → tail_as d g x < 2 ^ (8 * tail_length d)
tail_below LoggingStream g x h = h
tail_below ReplayData g x h = kept_below (flag g 12) x h

-- two fields tell the number
two_apart : (k x y : ℕ) → ◌≡◌ ((x / k) ∷ ((x % k) ∷ [])) ((y / k) ∷ ((y % k) ∷ [])) → x ≡ y
two_apart k x y e =
    let q : x / k ≡ y / k = cc in
    let r : x % k ≡ y % k = cc in
    sym (div-add-mod' x k) ∙ ap (λ a. a * k + x % k) q ∙ ap (λ b. y / k * k + b) r ∙ div-add-mod' y k

tail_apart : (d : MessageType) (x y : ℕ) → tail_fields d x ≡ tail_fields d y → x ≡ y
tail_apart LoggingStream = two_apart (2 ^ 24)
tail_apart ReplayData = two_apart (2 ^ 16)

pub flexray_shapely : (d : MessageType) → Shapely (flex_ray_shape d)
flexray_shapely d = record {
  head_short = omega arith;
  tail_short = tail_short d;
  few = λ g n e. leb-true n 254 e;
  mask_fits = mask_fits d;
  head_again = λ g x. refl;
  head_below = λ g x h. h;
  tail_again = λ g n x. tail_again d g x;
  tail_below = λ g n x. tail_below d g x;
  head_count = λ x y. refl;
  head_apart = two_apart (2 ^ 16);
  tail_apart = tail_apart d;
}
