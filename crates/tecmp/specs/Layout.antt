-- Big-endian numbers, and the fields of a packet's and an entry's head.
use Rattle.std.specs.Prelude.{ℕ, ◌+◌, ◌*◌, Bool, true, cond, ◌&&◌, List, [], ◌∷◌, take, drop, ◌==◌, bit_and, nat_lt, slice_index}
use Rattle.records.specs.declared.code.MessageType.{MessageType}
use Rattle.records.specs.declared.code.MessageType.TheVariants.{LoggingStream, ReplayData}
use Rattle.records.specs.declared.code.Code.{Code}

-- the number in the two, four or eight bytes from a place on
abbrev pub be2 : List ℕ → ℕ → ℕ
be2 s at = slice_index s at * 256 + slice_index s (at + 1)

abbrev pub be4 : List ℕ → ℕ → ℕ
be4 s at = slice_index s at * 16777216 + slice_index s (at + 1) * 65536 + slice_index s (at + 2) * 256 + slice_index s (at + 3)

abbrev pub be8 : List ℕ → ℕ → ℕ
be8 s at = slice_index s at * 72057594037927936 + slice_index s (at + 1) * 281474976710656 + slice_index s (at + 2) * 1099511627776 + slice_index s (at + 3) * 4294967296 + slice_index s (at + 4) * 16777216 + slice_index s (at + 5) * 65536 + slice_index s (at + 6) * 256 + slice_index s (at + 7)

abbrev pub zeros : List ℕ → Bool
zeros [] = true
zeros (b ∷ bs) = b == 0 && zeros bs

-- the head of a packet: twelve bytes
abbrev pub device_id : List ℕ → ℕ
device_id s = be2 s 0

abbrev pub counter : List ℕ → ℕ
counter s = be2 s 2

abbrev pub version : List ℕ → ℕ
version s = slice_index s 4

abbrev pub type_byte : List ℕ → ℕ
type_byte s = slice_index s 5

abbrev pub data_type : List ℕ → ℕ
data_type s = be2 s 6

abbrev pub device_flags : List ℕ → ℕ
device_flags s = be2 s 10

-- of a packet that has one of the two
abbrev pub message_type : List ℕ → MessageType
message_type s = cond (type_byte s == 3) LoggingStream ReplayData

abbrev pub code_of : List ℕ → Code
code_of s = record { message_type = message_type s; data_type = data_type s }

-- the head of an entry, sixteen bytes, and its data
abbrev pub interface_id : List ℕ → ℕ
interface_id t = be4 t 0

abbrev pub time_word : List ℕ → ℕ
time_word t = be8 t 4

abbrev pub data_length : List ℕ → ℕ
data_length t = be2 t 12

abbrev pub data_flags : List ℕ → ℕ
data_flags t = be2 t 14

abbrev pub content : List ℕ → List ℕ
content t = take (data_length t) (drop 16 t)

-- the low 62 bits
abbrev pub low62 : ℕ → ℕ
low62 word = bit_and word 4611686018427387903

-- a logged time is the whole word, a replay time its low 62 bits
abbrev pub time_of : MessageType → ℕ → ℕ
time_of LoggingStream word = word
time_of ReplayData word = low62 word

-- a logged time has a value in the low 62 bits
abbrev pub has_time : MessageType → ℕ → Bool
has_time LoggingStream word = nat_lt 0 (low62 word)
has_time ReplayData word = true
