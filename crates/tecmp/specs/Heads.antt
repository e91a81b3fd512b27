-- The fields of a packet's head.
use Rattle.std.specs.Prelude.{◌≡◌, ℕ, ◌<◌, ◌≤◌, Bool, true, List, length, drop, Some, None, Option, ◌==◌}
use Rattle.records.specs.declared.code.MessageType.{MessageType}
use Rattle.records.specs.declared.code.MessageType.TheVariants.{LoggingStream, ReplayData}
use Rattle.records.specs.declared.code.Code.{Code}
use Rattle.tecmp.specs.declared.head.Fields.{Fields}
use Rattle.records.specs.Codes.{same_type}
use Rattle.tecmp.specs.declared.head.Head.{Head}
use Rattle.tecmp.specs.declared.head.Stream.{Stream}
use Rattle.tecmp.specs.Layout.{device_id, counter, version, type_byte, data_type, device_flags}

-- each field where it stands, and the entries after the twelve bytes
pub record Split (s : List ℕ) (f : Fields) : Type 0 where
  pub long : 12 ≤ length s
  pub device_id_is : f.device_id ≡ device_id s
  pub counter_is : f.counter ≡ counter s
  pub version_is : f.version ≡ version s
  pub type_byte_is : f.message_type ≡ type_byte s
  pub data_type_is : f.data_type ≡ data_type s
  pub device_flags_is : f.device_flags ≡ device_flags s
  pub entries : f.entries.now ≡ drop 12 s

abbrev pub Splits : List ℕ → Option Fields → Type 0
Splits s None = length s < 12
Splits s (Some f) = Split s f

-- in replay module and counter are not read
abbrev pub read_of : MessageType → ℕ → ℕ
read_of LoggingStream n = n
read_of ReplayData n = 0

abbrev pub head_from : ℕ → ℕ → Code → Bool → Head
head_from device count code shares = record {
  stream = record { message_type = code.message_type; «module» = read_of code.message_type device };
  counter = read_of code.message_type count;
  code = code;
  shares = shares;
}

-- whether a packet is of the stream that is asked for, if one is
abbrev pub of_type : Option Stream → MessageType → Bool
of_type None type = true
of_type (Some stream) type = same_type type stream.message_type

abbrev pub of_module : Option Stream → ℕ → Bool
of_module None device = true
of_module (Some stream) device = device == stream.«module»
