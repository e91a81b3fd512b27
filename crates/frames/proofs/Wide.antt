-- Numbers of up to eight bytes and the eight bytes of a word. Assumes nothing.
use Rattle.std.proofs.Common.{◌≡◌, ℕ, zero, suc, ◌+◌, ◌-◌, ◌*◌, ◌/◌, ◌%◌, ◌≤◌, List, [], ◌∷◌, length, get_or, take, drop, replicate, sym, refl, ap, ◌∙◌, div-one, arith}
use borrow.Rule.Slice.PartMut.{put_mid}
use Rattle.records.specs.BigEndian.{big, low}

-- what `u64::from_be_bytes` answers
abbrev pub sum8 : List ℕ → ℕ
sum8 bs = get_or bs 0 0 * 72057594037927936 + get_or bs 1 0 * 281474976710656 + get_or bs 2 0 * 1099511627776 + get_or bs 3 0 * 4294967296 + get_or bs 4 0 * 16777216 + get_or bs 5 0 * 65536 + get_or bs 6 0 * 256 + get_or bs 7 0

-- the last bytes of a word of zeros; a line for each length, since `sum8` is computed byte by byte
pub read_whole : (bs : List ℕ) → length bs ≤ 8 → sum8 (put_mid (8 - length bs) (8 - (8 - length bs)) (replicate 8 0) bs) ≡ big bs
read_whole [] h = omega arith
read_whole (a ∷ []) h = omega arith
read_whole (a ∷ (b ∷ [])) h = omega arith
read_whole (a ∷ (b ∷ (c ∷ []))) h = omega arith
read_whole (a ∷ (b ∷ (c ∷ (d ∷ [])))) h = omega arith
read_whole (a ∷ (b ∷ (c ∷ (d ∷ (e ∷ []))))) h = omega arith
read_whole (a ∷ (b ∷ (c ∷ (d ∷ (e ∷ (f ∷ [])))))) h = omega arith
read_whole (a ∷ (b ∷ (c ∷ (d ∷ (e ∷ (f ∷ (g ∷ []))))))) h = omega arith
read_whole (a ∷ (b ∷ (c ∷ (d ∷ (e ∷ (f ∷ (g ∷ (i ∷ [])))))))) h = omega arith
read_whole (a ∷ (b ∷ (c ∷ (d ∷ (e ∷ (f ∷ (g ∷ (i ∷ (j ∷ bs))))))))) h = absurd (omega arith)

-- what `u64::to_be_bytes` answers
abbrev pub bytes8 : ℕ → List ℕ
bytes8 n = (n / 72057594037927936 % 256) ∷ (n / 281474976710656 % 256) ∷ (n / 1099511627776 % 256) ∷ (n / 4294967296 % 256) ∷ (n / 16777216 % 256) ∷ (n / 65536 % 256) ∷ (n / 256 % 256) ∷ (n % 256) ∷ []

pub whole_low : (n : ℕ) → bytes8 n ≡ low 8 n
whole_low n = ap (λ x. (n / 72057594037927936 % 256) ∷ (n / 281474976710656 % 256) ∷ (n / 1099511627776 % 256) ∷ (n / 4294967296 % 256) ∷ (n / 16777216 % 256) ∷ (n / 65536 % 256) ∷ (n / 256 % 256) ∷ (x % 256) ∷ []) (sym (div-one n))

-- a line for each length, since each is computed
last_low : (k n : ℕ) → k ≤ 8 → take (8 - (8 - k)) (drop (8 - k) (low 8 n)) ≡ low k n
last_low zero n h = refl
last_low (suc zero) n h = refl
last_low (suc (suc zero)) n h = refl
last_low (suc (suc (suc zero))) n h = refl
last_low (suc (suc (suc (suc zero)))) n h = refl
last_low (suc (suc (suc (suc (suc zero))))) n h = refl
last_low (suc (suc (suc (suc (suc (suc zero)))))) n h = refl
last_low (suc (suc (suc (suc (suc (suc (suc zero))))))) n h = refl
last_low (suc (suc (suc (suc (suc (suc (suc (suc zero)))))))) n h = refl
last_low (suc (suc (suc (suc (suc (suc (suc (suc (suc k))))))))) n h = absurd (omega arith)

pub write_whole : (k n : ℕ) → k ≤ 8 → take (8 - (8 - k)) (drop (8 - k) (bytes8 n)) ≡ low k n
write_whole k n h = ap (λ bs. take (8 - (8 - k)) (drop (8 - k) bs)) (whole_low n) ∙ last_low k n h
