-- The number and the offset of each refusal.
use Rattle.std.specs.Prelude.{◌≡◌, ℕ, Bool, ◌&&◌, ◌==◌, Decides}
use Rattle.records.specs.declared.refusal.Refusal.{Refusal}
use Rattle.records.specs.declared.refusal.Refusal.TheVariants.{PacketTooShort, TooLong, Version, MessageType, Module, Segmented, UnknownCode, PastEnd, NoData, NoTime, NotShared, Padding, Record, OutputFull, NoEntries, Opening, OutputLength, MalformedCopy}
use Rattle.records.specs.declared.refusal.RecordRefusal.{RecordRefusal}
use Rattle.records.specs.declared.refusal.RecordRefusal.TheVariants.{Length, Identifier, PayloadLength, Checksum, Setting, Slot}
use Rattle.records.specs.declared.refusal.WriteRefusal.{WriteRefusal}
use Rattle.records.specs.declared.refusal.WriteRefusal.TheVariants.{Record as Refused, PartLength}
use Rattle.records.specs.declared.refusal.LookupRefusal.{LookupRefusal}
use Rattle.records.specs.declared.refusal.LookupRefusal.TheVariants.{UnknownCode as Unserved, Kind}

abbrev pub number_of : Refusal → ℕ
number_of PacketTooShort = 1
number_of TooLong = 2
number_of Version = 3
number_of MessageType = 4
number_of Module = 5
number_of Segmented = 6
number_of UnknownCode = 7
number_of (PastEnd at) = 8
number_of (NoData at) = 9
number_of (NoTime at) = 10
number_of (NotShared at) = 11
number_of (Padding at) = 12
number_of (Record at) = 13
number_of OutputFull = 14
number_of NoEntries = 15
number_of Opening = 16
number_of OutputLength = 17
number_of MalformedCopy = 18

-- counted from the first byte; 0 where the whole is refused
abbrev pub offset_of : Refusal → ℕ
offset_of PacketTooShort = 0
offset_of TooLong = 0
offset_of Version = 0
offset_of MessageType = 0
offset_of Module = 0
offset_of Segmented = 0
offset_of UnknownCode = 0
offset_of (PastEnd at) = at
offset_of (NoData at) = at
offset_of (NoTime at) = at
offset_of (NotShared at) = at
offset_of (Padding at) = at
offset_of (Record at) = at
offset_of OutputFull = 0
offset_of NoEntries = 0
offset_of Opening = 0
offset_of OutputLength = 0
offset_of MalformedCopy = 0

-- number and offset tell which refusal it is
abbrev pub ToldApart : Type 0
ToldApart = (a b : Refusal) → number_of a ≡ number_of b → offset_of a ≡ offset_of b → a ≡ b

-- `==`, by what it computes: it is the same number and offset, and so the same refusal
abbrev pub EqualByNumber : (Refusal → Refusal → Bool) → Type 0
EqualByNumber equal = (a b : Refusal) → (equal a b ≡ (number_of a == number_of b && offset_of a == offset_of b)) × Decides (equal a b) (a ≡ b)

abbrev pub record_number : RecordRefusal → ℕ
record_number Length = 21
record_number Identifier = 22
record_number PayloadLength = 23
record_number Checksum = 24
record_number Setting = 25
record_number Slot = 26

abbrev pub write_number : WriteRefusal → ℕ
write_number (Refused refusal) = record_number refusal
write_number PartLength = 14

abbrev pub lookup_number : {E : Type 0} → (E → ℕ) → LookupRefusal E → ℕ
lookup_number kind_number Unserved = 7
lookup_number kind_number (Kind refusal) = kind_number refusal
