-- CAN and CAN-FD frames: identifier in 4 bytes, n, payload, checksum (CRC) in 2 bytes, with CAN-FD in 3.
use Rattle.std.specs.Prelude.{ℕ, ◌%◌, ◌^◌, Bool, true, cond, ◌||◌, List, [], ◌∷◌, ◌==◌, bit_and, nat_le, nat_lt}
use Rattle.records.specs.declared.code.Code.{Code}
use Rattle.records.specs.declared.code.MessageType.{MessageType}
use Rattle.records.specs.declared.code.MessageType.TheVariants.{LoggingStream, ReplayData}
use Rattle.records.specs.declared.refusal.RecordRefusal.{RecordRefusal}
use Rattle.records.specs.declared.refusal.RecordRefusal.TheVariants.{Identifier, Checksum}
use Rattle.records.specs.Flags.{bit_of, flag}
use Rattle.frames.specs.Frames.{Shape}
use Rattle.kind_can.specs.declared.frame.Protocol.{Protocol}
use Rattle.kind_can.specs.declared.frame.Protocol.TheVariants.{Classic, Fd}
use Rattle.kind_can.specs.declared.frame.CanFrame.{CanFrame}

abbrev pub kept_flags : Protocol → MessageType → ℕ
kept_flags Classic LoggingStream = 0xE0FF
kept_flags Classic ReplayData = 0x20F0
kept_flags Fd LoggingStream = 0xE1FF
kept_flags Fd ReplayData = 0x21F0

-- a remote frame (flag 1) has no payload; CAN-FD knows none
abbrev pub allows_count : Protocol → ℕ → ℕ → Bool
allows_count Classic g n = cond (flag g 1) (n == 0) (nat_le n 8)
allows_count Fd g n = nat_le n 8 || (n == 12 || (n == 16 || (n == 20 || (n == 24 || (n == 32 || (n == 48 || n == 64))))))

-- bits 29 and 30 of an identifier are read as 0
abbrev pub id_read : ℕ → ℕ
id_read x = bit_and x 0x9FFFFFFF

-- bit 31 says that an identifier is extended to 29 bits; one of 11 bits is at most 0x7FF
abbrev pub id_fits : ℕ → Bool
id_fits id = flag id 31 || nat_le id 0x7FF

-- flag 2 of a logged entry says the same as bit 31
abbrev pub id_agrees : MessageType → ℕ → ℕ → Bool
id_agrees LoggingStream g id = bit_of g 2 == bit_of id 31
id_agrees ReplayData g id = true

abbrev pub crc_length : Protocol → ℕ
crc_length Classic = 2
crc_length Fd = 3

abbrev pub crc_bits : Protocol → ℕ → ℕ
crc_bits Classic n = 15
crc_bits Fd n = cond (nat_le n 16) 17 21

-- a logged checksum is read in its bits; a replay one as it stands if flag 13 says that it is used, else as 0
abbrev pub crc_read : Protocol → MessageType → ℕ → ℕ → ℕ → ℕ
crc_read p LoggingStream g n x = x % 2 ^ crc_bits p n
crc_read p ReplayData g n x = cond (flag g 13) x 0

-- as read, only a used checksum of a replay entry can have more bits
abbrev pub crc_fits : Protocol → ℕ → ℕ → Bool
crc_fits p n crc = nat_lt crc (2 ^ crc_bits p n)

abbrev pub field_tests : CanFrame → ℕ → ℕ → ℕ → ℕ → List (Bool × RecordRefusal)
field_tests k g n id crc =
    (id_fits id, Identifier) ∷ (id_agrees k.direction g id, Identifier) ∷ (crc_fits k.protocol n crc, Checksum) ∷ []

-- an entry with flag 3 (error frame) carries no frame; replay does not keep that flag
abbrev pub can_shape : CanFrame → Shape
can_shape k = record {
  mask = kept_flags k.protocol k.direction;
  head_length = 4;
  tail_length = crc_length k.protocol;
  empty = λ g. flag g 3;
  allows = allows_count k.protocol;
  head_as = λ g x. id_read x;
  tail_as = crc_read k.protocol k.direction;
  field_tests = field_tests k;
  head_fields = λ id. id ∷ [];
  tail_fields = λ crc. crc ∷ [];
}

abbrev pub data_type : Protocol → ℕ
data_type Classic = 0x2
data_type Fd = 0x3

abbrev pub code_of : CanFrame → Code
code_of k = record { message_type = k.direction; data_type = data_type k.protocol }

-- the four kinds
abbrev pub logged_can : CanFrame
logged_can = record { protocol = Classic; direction = LoggingStream }

abbrev pub replay_can : CanFrame
replay_can = record { protocol = Classic; direction = ReplayData }

abbrev pub logged_can_fd : CanFrame
logged_can_fd = record { protocol = Fd; direction = LoggingStream }

abbrev pub replay_can_fd : CanFrame
replay_can_fd = record { protocol = Fd; direction = ReplayData }
