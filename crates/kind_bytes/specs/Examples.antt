-- Worked examples: each is computed by the definitions that the contracts cite.
use Rattle.std.specs.Prelude.{◌≡◌, ℕ, List, [], ◌∷◌, map, replicate, pos}
use Rattle.records.specs.Codecs.{verdict_of}
use Rattle.records.specs.Verdicts.{Verdict, refuses, accepts}
use Rattle.records.specs.declared.refusal.RecordRefusal.TheVariants.{Length, Setting}
use Rattle.kind_bytes.specs.Layouts.{codec, uart, ethernet}

abbrev pub uart_verdict : ℕ → List ℕ → Verdict
uart_verdict = verdict_of (codec uart)

abbrev pub ethernet_verdict : ℕ → List ℕ → Verdict
ethernet_verdict = verdict_of (codec ethernet)

abbrev pub BytesExamples : Type 0
BytesExamples =
    -- seven-bit symbols lose the top bit, eight-bit symbols keep it
    (uart_verdict 0x0004 (0xC1 ∷ 0x41 ∷ []) ≡ accepts (pos 4 ∷ pos 0x41 ∷ pos 0x41 ∷ []) 0x0004 (0x41 ∷ 0x41 ∷ []))
    × (uart_verdict 0x0006 (0xC1 ∷ []) ≡ accepts (pos 6 ∷ pos 0xC1 ∷ []) 0x0006 (0xC1 ∷ []))
    -- width 1, no symbol, and both: the length is tested first
    × (uart_verdict 0x0002 (0xC1 ∷ []) ≡ refuses Setting)
    × (uart_verdict 0x0006 [] ≡ refuses Length)
    × (uart_verdict 0x0002 [] ≡ refuses Length)
    -- 17 bytes are too few, 18 are not
    × (ethernet_verdict 0xFFFF (replicate 17 0xC1) ≡ refuses Length)
    × (ethernet_verdict 0xFFFF (replicate 18 0xC1) ≡ accepts (pos 0xE000 ∷ map pos (replicate 18 0xC1)) 0xE000 (replicate 18 0xC1))
