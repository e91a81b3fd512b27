-- Records with their verdicts.
use Rattle.std.specs.Prelude.{◌≡◌, [], ◌∷◌, pos}
use Rattle.records.specs.Verdicts.{accepts, refuses}
use Rattle.records.specs.declared.code.MessageType.TheVariants.{ReplayData}
use Rattle.records.specs.declared.refusal.RecordRefusal.TheVariants.{Setting, Slot}
use Rattle.kind_flexray.specs.FlexRay.{flex_ray_verdict}

abbrev pub FlexRayExamples : Type 0
FlexRayExamples =
    -- repetition 64; a header CRC that is not used is read as 0
    (flex_ray_verdict ReplayData 0x80 (63 ∷ (7 ∷ (0xFF ∷ (1 ∷ (0xAB ∷ (64 ∷ (0x12 ∷ (0x34 ∷ [])))))))) ≡ accepts (pos 0x80 ∷ (pos 63 ∷ (pos 2047 ∷ (pos 1 ∷ (pos 0xAB ∷ (pos 64 ∷ (pos 0 ∷ []))))))) 0x80 (63 ∷ (7 ∷ (0xFF ∷ (1 ∷ (0xAB ∷ (64 ∷ (0 ∷ (0 ∷ [])))))))))
    -- repetition 3
    × (flex_ray_verdict ReplayData 0x80 (63 ∷ (7 ∷ (0xFF ∷ (0 ∷ (3 ∷ (0 ∷ (0 ∷ []))))))) ≡ refuses Setting)
    -- cycle 64
    × (flex_ray_verdict ReplayData 0x80 (64 ∷ (7 ∷ (0xFF ∷ (0 ∷ (1 ∷ (0 ∷ (0 ∷ []))))))) ≡ refuses Slot)
