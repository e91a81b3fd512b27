-- The shape of a kind's verdict: tests in order, then what the record says, and its canonical encoding as a function of that alone.
use Rattle.std.specs.Prelude.{◌≡◌, ℕ, ◌^◌, ◌<◌, ◌≤◌, Bool, List, length, ℤ, Ok, Err, Result}
use Rattle.records.specs.declared.refusal.RecordRefusal.{RecordRefusal}
use Rattle.records.specs.Tests.{tested, Passed}
use Rattle.records.specs.Verdicts.{Verdict, refuses, accepts, Bytes}

-- a kind whose records say the values of S
pub record Codec (S : Type 0) : Type 0 where
  pub tests : ℕ → List ℕ → List (Bool × RecordRefusal)
  -- what accepted flags and data say
  pub says : ℕ → List ℕ → S
  -- the same as a list of whole numbers
  pub sense : S → List ℤ
  -- its canonical encoding
  pub flags : S → ℕ
  pub bytes : S → List ℕ

abbrev pub encoded : {S : Type 0} → Codec S → Result S RecordRefusal → Verdict
encoded k (Ok s) = accepts (k.sense s) (k.flags s) (k.bytes s)
encoded k (Err refusal) = refuses refusal

abbrev pub verdict_of : {S : Type 0} → Codec S → ℕ → List ℕ → Verdict
verdict_of k f d = encoded k (tested (k.tests f d) (Ok (k.says f d)))

-- what is to be shown of one
pub record Sound {S : Type 0} (k : Codec S) : Type 0 where
  -- accepted data has 1 to 1,472 bytes, and the canonical data as many
  pub sized : (f : ℕ) (d : List ℕ) → Passed (k.tests f d)
      → (0 < length d) × (length d ≤ 1472) × (length (k.bytes (k.says f d)) ≡ length d)
  -- the canonical encoding is flags and bytes
  pub fits : (f : ℕ) (d : List ℕ) → f < 2 ^ 16 → Bytes d → Passed (k.tests f d)
      → (k.flags (k.says f d) < 2 ^ 16) × Bytes (k.bytes (k.says f d))
  -- it is accepted and says the same
  pub passes : (f : ℕ) (d : List ℕ) → f < 2 ^ 16 → Bytes d → Passed (k.tests f d)
      → Passed (k.tests (k.flags (k.says f d)) (k.bytes (k.says f d)))
  pub back : (f : ℕ) (d : List ℕ) → f < 2 ^ 16 → Bytes d → Passed (k.tests f d)
      → k.says (k.flags (k.says f d)) (k.bytes (k.says f d)) ≡ k.says f d
  -- the whole numbers tell what is said
  pub apart : (s t : S) → k.sense s ≡ k.sense t → s ≡ t
