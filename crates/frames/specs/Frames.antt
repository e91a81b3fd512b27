-- Records that are a frame: a header, the payload length n in one byte, the payload, a trailer.
use Rattle.std.specs.Prelude.{◌≡◌, ℕ, ◌+◌, ◌*◌, ◌^◌, ◌<◌, ◌≤◌, Bool, true, cond, List, [], ◌∷◌, ◌++◌, map, length, take, drop, ℤ, pos, Ok, ◌==◌, bit_and, nat_le, slice_index}
use Rattle.records.specs.Codecs.{Codec, encoded}
use Rattle.records.specs.Tests.{tested}
use Rattle.records.specs.Verdicts.{Verdict}
use Rattle.records.specs.declared.refusal.RecordRefusal.{RecordRefusal}
use Rattle.records.specs.declared.refusal.RecordRefusal.TheVariants.{Length, PayloadLength}
use Rattle.records.specs.BigEndian.{big, low}

-- what differs from kind to kind; g is the flags as read, n the payload length, h and t header and trailer
pub record Shape : Type 0 where
  -- the flags that are kept
  pub mask : ℕ
  -- bytes of the header and of the trailer
  pub head_length : ℕ
  pub tail_length : ℕ
  -- whether an entry carries no frame
  pub empty : ℕ → Bool
  -- the payload lengths of a frame
  pub allows : ℕ → ℕ → Bool
  -- what header and trailer are read as
  pub head_as : ℕ → ℕ → ℕ
  pub tail_as : ℕ → ℕ → ℕ → ℕ
  -- the tests of a frame as read, by flags, n, header and trailer: settings, identifier, slot, checksum
  pub field_tests : ℕ → ℕ → ℕ → ℕ → List (Bool × RecordRefusal)
  -- the fields of header and trailer
  pub head_fields : ℕ → List ℕ
  pub tail_fields : ℕ → List ℕ

-- what is to be shown of a shape
pub record Shapely (s : Shape) : Type 0 where
  pub head_short : s.head_length ≤ 8
  pub tail_short : s.tail_length ≤ 8
  pub few : (g n : ℕ) → s.allows g n ≡ true → n ≤ 254
  pub mask_fits : s.mask < 2 ^ 16
  -- what was read is read as itself, and fits where it stood
  pub head_again : (g x : ℕ) → s.head_as g (s.head_as g x) ≡ s.head_as g x
  pub head_below : (g x : ℕ) → x < 2 ^ (8 * s.head_length) → s.head_as g x < 2 ^ (8 * s.head_length)
  pub tail_again : (g n x : ℕ) → s.tail_as g n (s.tail_as g n x) ≡ s.tail_as g n x
  pub tail_below : (g n x : ℕ) → x < 2 ^ (8 * s.tail_length) → s.tail_as g n x < 2 ^ (8 * s.tail_length)
  -- the fields, always as many, tell the header and the trailer
  pub head_count : (x y : ℕ) → length (s.head_fields x) ≡ length (s.head_fields y)
  pub head_apart : (x y : ℕ) → s.head_fields x ≡ s.head_fields y → x ≡ y
  pub tail_apart : (x y : ℕ) → s.tail_fields x ≡ s.tail_fields y → x ≡ y

-- a frame as read: flags, header, payload, trailer
pub data Frame : Type 0 where
  frame : ℕ → ℕ → List ℕ → ℕ → Frame

-- header and trailer in so many bytes, around the payload length and the payload
abbrev pub laid : ℕ → ℕ → List ℕ → ℕ → ℕ → List ℕ
laid head_length h p tail_length t = low head_length h ++ (length p ∷ (p ++ low tail_length t))

module _ (s : Shape) where
  abbrev pub flags_read : ℕ → ℕ
  flags_read f = bit_and f s.mask

  abbrev pub count : List ℕ → ℕ
  count d = slice_index d s.head_length

  -- just as long as its parts
  abbrev pub Sized : List ℕ → Type 0
  Sized d = length d ≡ s.head_length + 1 + s.tail_length + count d

  abbrev pub payload : List ℕ → List ℕ
  payload d = take (count d) (drop (s.head_length + 1) d)

  -- all data of an entry that carries no frame is read as 0
  abbrev pub head_read : ℕ → List ℕ → ℕ
  head_read g d = cond (s.empty g) 0 (s.head_as g (big (take s.head_length d)))

  abbrev pub tail_read : ℕ → List ℕ → ℕ
  tail_read g d = cond (s.empty g) 0 (s.tail_as g (count d) (big (drop (count d) (drop (s.head_length + 1) d))))

  -- g is the flags as read
  abbrev pub framed_on : ℕ → List ℕ → Frame
  framed_on g d = frame g (head_read g d) (payload d) (tail_read g d)

  abbrev pub framed : ℕ → List ℕ → Frame
  framed f d = frame (flags_read f) (head_read (flags_read f) d) (payload d) (tail_read (flags_read f) d)

  -- g is the flags as read; an entry that carries no frame has n = 0
  abbrev pub size_tests : ℕ → List ℕ → List (Bool × RecordRefusal)
  size_tests g d =
      (nat_le (s.head_length + 1 + s.tail_length) (length d), Length)
      ∷ (cond (s.empty g) (count d == 0) (s.allows g (count d)), PayloadLength)
      ∷ ((length d == s.head_length + 1 + s.tail_length + count d), Length) ∷ []

  -- and skips the tests of a frame
  abbrev pub frame_tests : ℕ → List ℕ → List (Bool × RecordRefusal)
  frame_tests g d = cond (s.empty g) [] (s.field_tests g (count d) (head_read g d) (tail_read g d))

  abbrev pub tests_on : ℕ → List ℕ → List (Bool × RecordRefusal)
  tests_on g d = size_tests g d ++ frame_tests g d

  abbrev pub tests : ℕ → List ℕ → List (Bool × RecordRefusal)
  tests f d = tests_on (flags_read f) d

  -- flags, the header's fields, n, the payload, the trailer's fields
  abbrev pub sense : Frame → List ℤ
  sense (frame g h p t) = map pos (g ∷ (s.head_fields h ++ (length p ∷ (p ++ s.tail_fields t))))

  abbrev pub flags_of : Frame → ℕ
  flags_of (frame g h p t) = g

  abbrev pub bytes_of : Frame → List ℕ
  bytes_of (frame g h p t) = low s.head_length h ++ (length p ∷ (p ++ low s.tail_length t))

  abbrev pub codec : Codec Frame
  codec = record { tests = tests; says = framed; sense = sense; flags = flags_of; bytes = bytes_of }

  -- what the codec says of any flags that are read as g
  abbrev pub verdict_on : ℕ → List ℕ → Verdict
  verdict_on g d = encoded codec (tested (tests_on g d) (Ok (framed_on g d)))
