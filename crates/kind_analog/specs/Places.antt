-- The samples in the data by index, for the code that goes from one to the next.
use Rattle.std.specs.Prelude.{ℕ, ◌+◌, ◌*◌, List, ℤ, pos, ◌*ℤ◌, slice_index, slice_set}
use Rattle.kind_analog.specs.Analog.{sample}

-- the value of the sample at an index, counted in the step
abbrev pub value_at : ℕ → List ℕ → ℕ → ℤ
value_at m d i = sample (slice_index d (i * 2)) (slice_index d (i * 2 + 1)) *ℤ pos m

-- two bytes put in the place of that sample
abbrev pub put_at : List ℕ → ℕ → List ℕ → List ℕ
put_at d i bytes = slice_set (slice_set d (i * 2) (slice_index bytes 0)) (i * 2 + 1) (slice_index bytes 1)
