-- FlexRay records: cycle in one byte, frame ID in two, n, payload. Then logged the header CRC in two bytes
-- and the frame CRC in three, in replay the repetition in one byte and the header CRC in two.
use Rattle.std.specs.Prelude.{ℕ, ◌*◌, ◌/◌, ◌%◌, ◌^◌, Bool, false, cond, ◌&&◌, ◌||◌, List, [], ◌∷◌, ◌==◌, count_ones, nat_le}
use Rattle.records.specs.Codecs.{verdict_of}
use Rattle.records.specs.Flags.{flag}
use Rattle.records.specs.Verdicts.{Verdict}
use Rattle.records.specs.declared.code.Code.{Code}
use Rattle.records.specs.declared.code.MessageType.{MessageType}
use Rattle.records.specs.declared.code.MessageType.TheVariants.{LoggingStream, ReplayData}
use Rattle.records.specs.declared.refusal.RecordRefusal.{RecordRefusal}
use Rattle.records.specs.declared.refusal.RecordRefusal.TheVariants.{Checksum, Setting, Slot}
use Rattle.frames.specs.Frames.{Shape, codec}

abbrev pub flex_ray_code : MessageType → Code
flex_ray_code direction = record { message_type = direction; data_type = 0x8 }

abbrev pub kept_flags : MessageType → ℕ
kept_flags LoggingStream = 0xF03F
kept_flags ReplayData = 0x1380

-- a logged wake-up symbol, flag 3, or collision avoidance symbol, flag 5, carries no frame
abbrev pub no_frame : MessageType → ℕ → Bool
no_frame LoggingStream g = flag g 3 || flag g 5
no_frame ReplayData g = false

-- the header's fields
abbrev pub cycle : ℕ → ℕ
cycle h = h / 2 ^ 16

abbrev pub frame_id : ℕ → ℕ
frame_id h = h % 2 ^ 16

-- the fields of a replay trailer
abbrev pub repetition : ℕ → ℕ
repetition t = t / 2 ^ 16

abbrev pub header_crc : ℕ → ℕ
header_crc t = t % 2 ^ 16

abbrev pub tail_length : MessageType → ℕ
tail_length LoggingStream = 5
tail_length ReplayData = 3

-- the fields of a logged trailer are header CRC and frame CRC
abbrev pub tail_fields : MessageType → ℕ → List ℕ
tail_fields LoggingStream t = (t / 2 ^ 24) ∷ ((t % 2 ^ 24) ∷ [])
tail_fields ReplayData t = repetition t ∷ (header_crc t ∷ [])

-- a header CRC that is not used in replay, flag 12, is read as 0
abbrev pub tail_as : MessageType → ℕ → ℕ → ℕ
tail_as LoggingStream g t = t
tail_as ReplayData g t = cond (flag g 12) t (repetition t * 2 ^ 16)

abbrev pub slot : ℕ → Bool
slot h = nat_le (cycle h) 63 && (nat_le 1 (frame_id h) && nat_le (frame_id h) 2047)

-- the transmission mode, bits 7 to 9 of the flags
abbrev pub mode : ℕ → ℕ
mode g = g / 2 ^ 7 % 2 ^ 3

-- the mode is one of three; the repetition is to 64, with one bit set
abbrev pub setting : ℕ → ℕ → Bool
setting g t = nat_le 1 (mode g) && (nat_le (mode g) 3 && (nat_le (repetition t) 64 && count_ones (repetition t) == 1))

abbrev pub field_tests : MessageType → ℕ → ℕ → ℕ → List (Bool × RecordRefusal)
field_tests LoggingStream g h t = (slot h, Slot) ∷ []
field_tests ReplayData g h t = (setting g t, Setting) ∷ (slot h, Slot) ∷ (nat_le (header_crc t) 0x7FF, Checksum) ∷ []

abbrev pub flex_ray_shape : MessageType → Shape
flex_ray_shape direction = record {
  mask = kept_flags direction;
  head_length = 3;
  tail_length = tail_length direction;
  empty = no_frame direction;
  allows = λ g n. nat_le n 254;
  head_as = λ g h. h;
  tail_as = λ g n t. tail_as direction g t;
  field_tests = λ g n h t. field_tests direction g h t;
  head_fields = λ h. cycle h ∷ (frame_id h ∷ []);
  tail_fields = tail_fields direction;
}

abbrev pub flex_ray_verdict : MessageType → ℕ → List ℕ → Verdict
flex_ray_verdict direction = verdict_of (codec (flex_ray_shape direction))
