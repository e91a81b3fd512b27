-- Records with their verdicts.
use Rattle.std.specs.Prelude.{◌≡◌, [], ◌∷◌, pos}
use Rattle.records.specs.Verdicts.{accepts}
use Rattle.records.specs.declared.code.MessageType.TheVariants.{LoggingStream, ReplayData}
use Rattle.kind_lin.specs.Lin.{lin_verdict}

abbrev pub LinExamples : Type 0
LinExamples =
    -- parity and checksum are read as 0 where they are not used
    (lin_verdict ReplayData 0xDF00 (0xFC ∷ (2 ∷ (0x11 ∷ (0x22 ∷ (0x33 ∷ []))))) ≡ accepts (pos 0x300 ∷ (pos 0x3C ∷ (pos 2 ∷ (pos 0x11 ∷ (pos 0x22 ∷ (pos 0 ∷ [])))))) 0x300 (0x3C ∷ (2 ∷ (0x11 ∷ (0x22 ∷ (0 ∷ []))))))
    -- no response from the slave
    × (lin_verdict LoggingStream 4 (0x42 ∷ (0 ∷ (0x99 ∷ []))) ≡ accepts (pos 4 ∷ (pos 2 ∷ (pos 0 ∷ (pos 0 ∷ [])))) 4 (2 ∷ (0 ∷ (0 ∷ []))))
