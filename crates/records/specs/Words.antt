-- What is printed of a refusal.
use Rattle.std.specs.Prelude.{ℕ, List, ◌++◌, codes, decimal}
use Rattle.records.specs.declared.refusal.Refusal.{Refusal}
use Rattle.records.specs.declared.refusal.Refusal.TheVariants.{PacketTooShort, TooLong, Version, MessageType, Module, Segmented, UnknownCode, PastEnd, NoData, NoTime, NotShared, Padding, Record, OutputFull, NoEntries, Opening, OutputLength, MalformedCopy}

abbrev pub meaning_of : Refusal → List ℕ
meaning_of PacketTooShort = codes "a packet of under 28 bytes"
meaning_of TooLong = codes "a packet of over 1500 bytes, or data of over 1472"
meaning_of Version = codes "the version is not 3"
meaning_of MessageType = codes "the message type is not 3 or 10, or not the stream's"
meaning_of Module = codes "the module of a logged packet is over 255, or not the stream's"
meaning_of Segmented = codes "a logged packet that is a segment of a message"
meaning_of UnknownCode = codes "no record kind serves this message type and data type"
meaning_of (PastEnd at) = codes "the entry passes the end of the packet, or none can begin here"
meaning_of (NoData at) = codes "an entry of length 0"
meaning_of (NoTime at) = codes "a logged entry without a time"
meaning_of (NotShared at) = codes "a second entry, of a code that does not share packets"
meaning_of (Padding at) = codes "zeros to the end of a packet of over 46 bytes"
meaning_of (Record at) = codes "the record kind refuses the flags or the data"
meaning_of OutputFull = codes "no room for the entry and a closing word"
meaning_of NoEntries = codes "closing without an entry"
meaning_of Opening = codes "the direction or the module is not allowed"
meaning_of OutputLength = codes "a length that is not allowed, or not that at opening"
meaning_of MalformedCopy = codes "a wrong word, end, filling or count in a copy"

-- the number, the offset where there is one, and the meaning
abbrev pub worded : ℕ → List ℕ → List ℕ
worded number words = decimal number ++ (codes ": " ++ words)

abbrev pub worded_at : ℕ → ℕ → List ℕ → List ℕ
worded_at number at words = decimal number ++ (codes " at offset " ++ (decimal at ++ (codes ": " ++ words)))

abbrev pub text_of : Refusal → List ℕ
text_of PacketTooShort = worded 1 (meaning_of PacketTooShort)
text_of TooLong = worded 2 (meaning_of TooLong)
text_of Version = worded 3 (meaning_of Version)
text_of MessageType = worded 4 (meaning_of MessageType)
text_of Module = worded 5 (meaning_of Module)
text_of Segmented = worded 6 (meaning_of Segmented)
text_of UnknownCode = worded 7 (meaning_of UnknownCode)
text_of (PastEnd at) = worded_at 8 at (meaning_of (PastEnd at))
text_of (NoData at) = worded_at 9 at (meaning_of (NoData at))
text_of (NoTime at) = worded_at 10 at (meaning_of (NoTime at))
text_of (NotShared at) = worded_at 11 at (meaning_of (NotShared at))
text_of (Padding at) = worded_at 12 at (meaning_of (Padding at))
text_of (Record at) = worded_at 13 at (meaning_of (Record at))
text_of OutputFull = worded 14 (meaning_of OutputFull)
text_of NoEntries = worded 15 (meaning_of NoEntries)
text_of Opening = worded 16 (meaning_of Opening)
text_of OutputLength = worded 17 (meaning_of OutputLength)
text_of MalformedCopy = worded 18 (meaning_of MalformedCopy)
