-- LIN records, logged and replay: ID in one byte, n, payload, checksum in one byte.
use Rattle.std.specs.Prelude.{ℕ, ◌%◌, Bool, false, cond, not, ◌||◌, List, [], ◌∷◌, ◌==◌}
use Rattle.records.specs.Codecs.{verdict_of}
use Rattle.records.specs.Flags.{flag}
use Rattle.records.specs.Verdicts.{Verdict}
use Rattle.records.specs.declared.code.Code.{Code}
use Rattle.records.specs.declared.code.MessageType.{MessageType}
use Rattle.records.specs.declared.code.MessageType.TheVariants.{LoggingStream, ReplayData}
use Rattle.frames.specs.Frames.{Shape, codec}

abbrev pub lin_code : MessageType → Code
lin_code direction = record { message_type = direction; data_type = 0x4 }

abbrev pub kept_flags : MessageType → ℕ
kept_flags LoggingStream = 0xE707
kept_flags ReplayData = 0x2302

-- a logged wake-up, flag 8, or short wake-up, flag 9, carries no frame
abbrev pub no_frame : MessageType → ℕ → Bool
no_frame LoggingStream g = flag g 8 || flag g 9
no_frame ReplayData g = false

-- the bytes of a response
abbrev pub response_length : ℕ → Bool
response_length n = n == 1 || (n == 2 || (n == 4 || n == 8))

-- logged, there is no payload just where the slave did not respond, flag 2
abbrev pub allows : MessageType → ℕ → ℕ → Bool
allows LoggingStream g n = cond (flag g 2) (n == 0) (response_length n)
allows ReplayData g n = n == 0 || response_length n

-- the parity, bits 6 and 7 of the ID, is read as 0, unless it is used in replay, flag 1
abbrev pub id_as : MessageType → ℕ → ℕ → ℕ
id_as LoggingStream g x = x % 64
id_as ReplayData g x = cond (flag g 1) x (x % 64)

-- logged, the checksum is read if the slave responded, in replay if it is used, flag 13
abbrev pub checksum_read : MessageType → ℕ → Bool
checksum_read LoggingStream g = not (flag g 2)
checksum_read ReplayData g = flag g 13

abbrev pub checksum_as : MessageType → ℕ → ℕ → ℕ
checksum_as direction g x = cond (checksum_read direction g) x 0

abbrev pub lin_shape : MessageType → Shape
lin_shape direction = record {
  mask = kept_flags direction;
  head_length = 1;
  tail_length = 1;
  empty = no_frame direction;
  allows = allows direction;
  head_as = id_as direction;
  tail_as = λ g n x. checksum_as direction g x;
  field_tests = λ g n h t. [];
  head_fields = λ h. h ∷ [];
  tail_fields = λ t. t ∷ [];
}

abbrev pub lin_verdict : MessageType → ℕ → List ℕ → Verdict
lin_verdict direction = verdict_of (codec (lin_shape direction))
