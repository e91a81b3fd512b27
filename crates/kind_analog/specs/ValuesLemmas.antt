-- The bytes that are written of values. Assumes nothing.
use Rattle.std.specs.Prelude.{◌≡◌, ℕ, suc, ◌%◌, List, [], ◌∷◌, length, ℤ, refl}
use Rattle.std.proofs.Common.{ap, arith}
use Rattle.records.specs.Verdicts.{Bytes}
use Rattle.kind_analog.specs.Analog.{values, samples_of}

-- every byte of a whole number of samples is written
pub length-samples : (to m : ℕ) (d : List ℕ) → length d % 2 ≡ 0 → length (samples_of to (values m d)) ≡ length d
length-samples to m [] h = refl
length-samples to m (x ∷ []) h = absurd (omega arith)
length-samples to m (x ∷ (y ∷ d)) h = ap (λ n. suc (suc n)) (length-samples to m d (omega arith))

pub samples_bytes : (m : ℕ) (vs : List ℤ) → Bytes (samples_of m vs)
samples_bytes m [] = tt
samples_bytes m (v ∷ vs) = (omega arith, (omega arith, samples_bytes m vs))
