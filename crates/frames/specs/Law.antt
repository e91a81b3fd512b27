-- A shapely kind of frames is sound: what it writes reads back. Assumes nothing.
use Rattle.std.proofs.Common.{◌≡◌, ℕ, ◌+◌, ◌*◌, ◌^◌, ◌<◌, ◌≤◌, Bool, true, false, cond, eqb, List, ◌∷◌, ◌++◌, length, take, drop, sym, refl, ap, ◌∙◌, subst, arith}
use lib.Bits.{bit_and}
use Rattle.std.proofs.lemmas.Nat.{and_le_r}
use Rattle.std.proofs.ByRecursion.{All-append, All-take, All-drop}
use Rattle.std.proofs.lemmas.List.{length-append, length-take-le, length-drop, take_at, drop_at, get_or_at, drop-drop}
use Rattle.std.proofs.lemmas.Bool.{eqb-true}
use Rattle.records.specs.Codecs.{Sound, verdict_of}
use Rattle.records.specs.Tests.{Passed}
use Rattle.records.specs.Verdicts.{Bytes, Lawful}
use Rattle.records.proofs.Codecs.{lawful}
use Rattle.records.proofs.Masks.{kept_again}
use Rattle.records.specs.BigEndian.{big, low}
use Rattle.frames.specs.Frames.{Shape, Shapely, flags_read, count, Sized, payload, head_read, tail_read, framed_on, framed, tests_on, tests, bytes_of, codec}
use Rattle.frames.specs.Apart.{apart}
use Rattle.records.proofs.Widths.{length-low, bytes_low, big-low, big_below}

-- what was read and written is read again
read_again : (b : Bool) (F : ℕ → ℕ) (k x : ℕ) → F x < 2 ^ (8 * k) → F (F x) ≡ F x → cond b 0 (F (big (low k (cond b 0 (F x))))) ≡ cond b 0 (F x)
read_again true F k x h e = refl
read_again false F k x h e = ap F (big-low k (F x) h) ∙ e

-- the payload length of an entry that passed
count_few : (s : Shape) → Shapely s → (b : Bool) (g n : ℕ) → cond b (eqb n 0) (s.allows g n) ≡ true → n ≤ 254
count_few s ok true g n e = let z = eqb-true n 0 e in omega arith
count_few s ok false g n e = ok.few g n e

-- what stands in a written frame
module _ (s : Shape) (h t : ℕ) (p : List ℕ) where
  out : List ℕ
  out = low s.head_length h ++ (length p ∷ (p ++ low s.tail_length t))

  out_length : length out ≡ s.head_length + 1 + s.tail_length + length p
  unfolding out
  out_length = omega (arith, length-append (low s.head_length h) (length p ∷ (p ++ low s.tail_length t)), length-low s.head_length h, length-append p (low s.tail_length t), length-low s.tail_length t)

  out_count : count s out ≡ length p
  unfolding out
  out_count = get_or_at (low s.head_length h) (length p) (p ++ low s.tail_length t) 0 s.head_length (length-low s.head_length h)

  out_head : take s.head_length out ≡ low s.head_length h
  unfolding out
  out_head = take_at (low s.head_length h) (length p ∷ (p ++ low s.tail_length t)) s.head_length (length-low s.head_length h)

  out_rest : drop (s.head_length + 1) out ≡ p ++ low s.tail_length t
  unfolding out
  out_rest = sym (drop-drop 1 s.head_length out) ∙ ap (drop 1) (drop_at (low s.head_length h) (length p ∷ (p ++ low s.tail_length t)) s.head_length (length-low s.head_length h))

  out_payload : payload s out ≡ p
  out_payload = ap (λ n. take n (drop (s.head_length + 1) out)) out_count ∙ ap (take (length p)) out_rest ∙ take_at p (low s.tail_length t) (length p) refl

  out_tail : drop (count s out) (drop (s.head_length + 1) out) ≡ low s.tail_length t
  out_tail = ap (λ n. drop n (drop (s.head_length + 1) out)) out_count ∙ ap (drop (length p)) out_rest ∙ drop_at p (low s.tail_length t) (length p) refl

  out_bytes : Bytes p → length p < 256 → Bytes out
  unfolding out
  out_bytes b l = All-append (λ x. x < 256) (low s.head_length h) (length p ∷ (p ++ low s.tail_length t)) (bytes_low s.head_length h) (l, All-append (λ x. x < 256) p (low s.tail_length t) b (bytes_low s.tail_length t))

-- what passed, by the flags as read
module _ (s : Shape) (ok : Shapely s) (g : ℕ) (d : List ℕ) (p : Passed (tests_on s g d)) where
  pub size : Sized s d
  size = eqb-true _ _ p.1.1.0

  payload_length : length (payload s d) ≡ count s d
  payload_length = length-take-le (count s d) (drop (s.head_length + 1) d) (omega (arith, length-drop (s.head_length + 1) d, size))

  few : count s d ≤ 254
  few = count_few s ok (s.empty g) g (count s d) p.1.0

  again_count : count s (bytes_of s (framed_on s g d)) ≡ count s d
  unfolding out
  again_count = out_count s _ _ (payload s d) ∙ payload_length

  pub again_length : length (bytes_of s (framed_on s g d)) ≡ length d
  unfolding out
  again_length = out_length s _ _ (payload s d) ∙ omega (arith, size, payload_length)

  again_payload : payload s (bytes_of s (framed_on s g d)) ≡ payload s d
  unfolding out
  again_payload = out_payload s _ _ (payload s d)

  module _ (b : Bytes d) where
    head_below : s.head_as g (big (take s.head_length d)) < 2 ^ (8 * s.head_length)
    head_below =
        let l : length (take s.head_length d) ≡ s.head_length = length-take-le s.head_length d (omega (arith, size)) in
        ok.head_below g _ (big_below (take s.head_length d) s.head_length (All-take (λ x. x < 256) s.head_length d b) l)

    tail_below : s.tail_as g (count s d) (big (drop (count s d) (drop (s.head_length + 1) d))) < 2 ^ (8 * s.tail_length)
    tail_below =
        let l : length (drop (count s d) (drop (s.head_length + 1) d)) ≡ s.tail_length = omega (arith, length-drop (count s d) (drop (s.head_length + 1) d), length-drop (s.head_length + 1) d, size) in
        ok.tail_below g (count s d) _ (big_below (drop (count s d) (drop (s.head_length + 1) d)) s.tail_length (All-drop (λ x. x < 256) (count s d) (drop (s.head_length + 1) d) (All-drop (λ x. x < 256) (s.head_length + 1) d b)) l)

    again_head : head_read s g (bytes_of s (framed_on s g d)) ≡ head_read s g d
    unfolding out
    again_head =
        ap (λ x. cond (s.empty g) 0 (s.head_as g (big x))) (out_head s _ _ (payload s d))
        ∙ read_again (s.empty g) (s.head_as g) s.head_length (big (take s.head_length d)) head_below (ok.head_again g _)

    again_tail : tail_read s g (bytes_of s (framed_on s g d)) ≡ tail_read s g d
    unfolding out
    again_tail =
        ap (λ x. cond (s.empty g) 0 (s.tail_as g (count s (bytes_of s (framed_on s g d))) (big x))) (out_tail s _ _ (payload s d))
        ∙ ap (λ n. cond (s.empty g) 0 (s.tail_as g n (big (low s.tail_length (tail_read s g d))))) again_count
        ∙ read_again (s.empty g) (s.tail_as g (count s d)) s.tail_length (big (drop (count s d) (drop (s.head_length + 1) d))) tail_below (ok.tail_again g (count s d) _)

    written_bytes : Bytes (bytes_of s (framed_on s g d))
    unfolding out
    written_bytes = out_bytes s _ _ (payload s d) (All-take (λ x. x < 256) (count s d) (drop (s.head_length + 1) d) (All-drop (λ x. x < 256) (s.head_length + 1) d b)) (omega (arith, few, payload_length))

pub sound : (s : Shape) → Shapely s → Sound (codec s)
sound s ok = record {
  sized = λ f d p. (
    omega (arith, size s ok (flags_read s f) d p),
    omega (arith, size s ok (flags_read s f) d p, ok.head_short, ok.tail_short, few s ok (flags_read s f) d p),
    again_length s ok (flags_read s f) d p,
  );
  fits = λ f d lt b p. (omega (arith, and_le_r f s.mask, ok.mask_fits), written_bytes s ok (flags_read s f) d p b);
  -- each of the three codecs has other facts here, and `cc` puts them together
  passes = λ f d lt b p.
      let e₁ = kept_again s.mask f in
      let e₂ = again_count s ok (flags_read s f) d p in
      let e₃ = again_head s ok (flags_read s f) d p b in
      let e₄ = again_tail s ok (flags_read s f) d p b in
      let e₅ = again_length s ok (flags_read s f) d p in
      let same : tests s (bit_and f s.mask) (bytes_of s (framed s f d)) ≡ tests s f d = cc in
      subst Passed (sym same) p;
  back = λ f d lt b p.
      let e₁ = kept_again s.mask f in
      let e₃ = again_head s ok (flags_read s f) d p b in
      let e₄ = again_tail s ok (flags_read s f) d p b in
      let e₅ = again_payload s ok (flags_read s f) d p in
      cc;
  apart = apart s ok;
}

pub frame_lawful : (s : Shape) → Shapely s → Lawful (verdict_of (codec s))
frame_lawful s ok = lawful (codec s) (sound s ok)
