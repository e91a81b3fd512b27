-- Message types and codes.
use Rattle.std.specs.Prelude.{ℕ, Bool, true, false, cond, ◌&&◌, Some, None, Option, Result, ◌==◌}
use Rattle.std.specs.Option.{ok_or}
use Rattle.records.specs.declared.code.MessageType.{MessageType}
use Rattle.records.specs.declared.code.MessageType.TheVariants.{LoggingStream, ReplayData}
use Rattle.records.specs.declared.code.Code.{Code}
use Rattle.records.specs.declared.refusal.Refusal.{Refusal}
use Rattle.records.specs.declared.refusal.Refusal.TheVariants.{MessageType as NoMessageType}

abbrev pub type_number : MessageType → ℕ
type_number LoggingStream = 3
type_number ReplayData = 10

abbrev pub type_of : ℕ → Option MessageType
type_of n = cond (n == 3) (Some LoggingStream) (cond (n == 10) (Some ReplayData) None)

-- the same, or the refusal of any other number
abbrev pub type_read : ℕ → Result MessageType Refusal
type_read n = ok_or (type_of n) NoMessageType

abbrev pub code_with : MessageType → ℕ → Code
code_with type data' = record { message_type = type; data_type = data' }

abbrev pub same_type : MessageType → MessageType → Bool
same_type LoggingStream LoggingStream = true
same_type LoggingStream ReplayData = false
same_type ReplayData LoggingStream = false
same_type ReplayData ReplayData = true

abbrev pub same_code : Code → Code → Bool
same_code a b = same_type a.message_type b.message_type && a.data_type == b.data_type
