-- Worked examples: each is computed by the definitions that the contracts cite.
use Rattle.std.specs.Prelude.{◌≡◌, ℕ, List, [], ◌∷◌, ◌++◌, replicate, pos, negsuc, None, Ok, Err}
use Rattle.records.specs.Codecs.{verdict_of}
use Rattle.tecmp.specs.Entries.{entries, counted}
use Rattle.records.specs.Verdicts.{Verdict, refuses, accepts}
use Rattle.records.specs.declared.refusal.RecordRefusal.TheVariants.{Length, Setting}
use Rattle.records.specs.declared.refusal.Refusal.TheVariants.{Padding}
use Rattle.kind_analog.specs.Analog.{codec}
use Rattle.kind_bytes.specs.Examples.{BytesExamples}
use Rattle.kind_can.specs.Examples.{CanExamples}
use Rattle.kind_flexray.specs.Examples.{FlexRayExamples}
use Rattle.kind_lin.specs.Examples.{LinExamples}
use Rattle.copy_format.specs.Image.{image}
use Rattle.records.specs.Codes.{code_with}
use Rattle.records.specs.declared.code.MessageType.TheVariants.{LoggingStream}
use Rattle.tecmp.specs.Reading.{Entry}
use Rattle.kinds.specs.Table.{standard_service}

abbrev pub analog : ℕ → List ℕ → Verdict
analog = verdict_of codec

abbrev pub AnalogExamples : Type 0
AnalogExamples =
    -- 50 hundredths of an ampere are 5 tenths
    (analog 0x1084 (0 ∷ 50 ∷ []) ≡ accepts (pos 1 ∷ pos 2 ∷ pos 5000 ∷ []) 0x1004 (0 ∷ 5 ∷ []))
    -- 51 hundredths are no tenths, so both samples stay
    × (analog 0x1084 (0 ∷ 50 ∷ 0 ∷ 51 ∷ []) ≡ accepts (pos 1 ∷ pos 2 ∷ pos 5000 ∷ pos 5100 ∷ []) 0x1084 (0 ∷ 50 ∷ 0 ∷ 51 ∷ []))
    -- 0 ten-thousandths are 0 tenths
    × (analog 0x1180 (0 ∷ 0 ∷ []) ≡ accepts (pos 0 ∷ pos 2 ∷ pos 0 ∷ []) 0x1000 (0 ∷ 0 ∷ []))
    -- −32,768 ten-thousandths stay
    × (analog 0x1180 (0x80 ∷ 0 ∷ []) ≡ accepts (pos 0 ∷ pos 2 ∷ negsuc 32767 ∷ []) 0x1180 (0x80 ∷ 0 ∷ []))
    -- no sample, half a sample, sample period 0
    × (analog 0x1084 [] ≡ refuses Length)
    × (analog 0x1084 (0 ∷ 50 ∷ 0 ∷ []) ≡ refuses Length)
    × (analog 0x0084 (0 ∷ 50 ∷ []) ≡ refuses Setting)

-- a logged CAN packet of 43 bytes: one entry, 11-bit ID 0x7FF, eight bytes of payload
abbrev pub packet43 : List ℕ
packet43 =
    (0 ∷ 64 ∷ 0 ∷ 1 ∷ 3 ∷ 3 ∷ 0 ∷ 2 ∷ 0 ∷ 0 ∷ 0 ∷ 0x0F ∷ [])
    ++ (0 ∷ 0 ∷ 0 ∷ 7 ∷ 0 ∷ 0 ∷ 0 ∷ 0 ∷ 0 ∷ 0 ∷ 0 ∷ 1 ∷ 0 ∷ 15 ∷ 0 ∷ 0 ∷ [])
    ++ (0 ∷ 0 ∷ 7 ∷ 0xFF ∷ 8 ∷ 1 ∷ 2 ∷ 3 ∷ 4 ∷ 5 ∷ 6 ∷ 7 ∷ 8 ∷ 0x12 ∷ 0x34 ∷ [])

abbrev pub PacketExamples : Type 0
PacketExamples =
    -- with 3 zeros it has 46 bytes, and reads to its end; with 4 it is refused at offset 43
    (counted 0 (entries standard_service None (packet43 ++ replicate 3 0)) ≡ Ok 1)
    × (entries standard_service None (packet43 ++ replicate 4 0) ≡ Err (Padding 43))

-- a reading of an ampere each second, on interface 7 at time 1
abbrev pub reading : ℕ → ℕ → Entry
reading flags sample = record { code = code_with LoggingStream 0x20; interface = 7; time = 1; flags = flags; bytes = 0 ∷ sample ∷ []; from = 0 }

-- its canonical copy, of module 64
abbrev pub copy_of_one : Entry → List ℕ
copy_of_one e = image standard_service (record { message_type = LoggingStream; «module» = 64 }) (e ∷ [])

-- ten words
abbrev pub forty_bytes : List ℕ
forty_bytes =
    (0x10 ∷ 0 ∷ 0 ∷ 0x1E ∷ 0 ∷ 0x40 ∷ 0 ∷ 1 ∷ 3 ∷ 3 ∷ 0 ∷ 0x20 ∷ 0 ∷ 0 ∷ 0 ∷ 0x0F ∷ [])
    ++ (0 ∷ 0 ∷ 0 ∷ 7 ∷ 0 ∷ 0 ∷ 0 ∷ 0 ∷ 0 ∷ 0 ∷ 0 ∷ 1 ∷ 0 ∷ 2 ∷ 0x10 ∷ 4 ∷ [])
    ++ (0 ∷ 5 ∷ 0 ∷ 0 ∷ 0x20 ∷ 0 ∷ 0 ∷ 1 ∷ [])

abbrev pub CopyExamples : Type 0
CopyExamples =
    -- 50 hundredths of an ampere; 5 tenths are the same load, and the same bytes
    (copy_of_one (reading 0x1084 50) ≡ forty_bytes)
    × (copy_of_one (reading 0x1004 5) ≡ forty_bytes)

abbrev pub Examples : Type 0
Examples = AnalogExamples × CanExamples × LinExamples × FlexRayExamples × BytesExamples × PacketExamples × CopyExamples
