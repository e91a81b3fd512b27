-- Logged analog records: signed 16-bit samples, scaled by a power of ten.
use Rattle.std.specs.Prelude.{ℕ, ◌+◌, ◌-◌, ◌*◌, ◌/◌, ◌%◌, ◌^◌, Bool, true, cond, ◌&&◌, List, [], ◌∷◌, ◌++◌, length, ℤ, pos, ◌*ℤ◌, Ok, Result, FitsSigned, ◌==◌, int_div, nat_le, unsigned_abs}
use Rattle.std.specs.Int.{w16}
use Rattle.std.proofs.Common.{to_z, of_z}
use Rattle.records.specs.Codecs.{Codec}
use Rattle.records.specs.Tests.{tested}
use Rattle.records.specs.declared.code.Code.{Code}
use Rattle.records.specs.declared.code.MessageType.TheVariants.{LoggingStream}
use Rattle.records.specs.declared.refusal.RecordRefusal.{RecordRefusal}
use Rattle.records.specs.declared.refusal.RecordRefusal.TheVariants.{Length, Setting}

abbrev pub analog_code : Code
analog_code = record { message_type = LoggingStream; data_type = 0x20 }

-- the flags: unit in bits 2 to 4, factor in bits 7 and 8, sample period in bits 11 to 14
abbrev pub unit_field : ℕ → ℕ
unit_field f = f / 4 % 8

abbrev pub factor_field : ℕ → ℕ
factor_field f = f / 128 % 4

abbrev pub period_field : ℕ → ℕ
period_field f = f / 2048 % 16

-- the ten-thousandths of the unit that a sample is counted in
abbrev pub step : ℕ → ℕ
step factor = 10 ^ (3 - factor)

abbrev pub sample : ℕ → ℕ → ℤ
sample high low = to_z w16 (high * 256 + low)

-- the values of the samples, each counted in the step
abbrev pub values : ℕ → List ℕ → List ℤ
values m [] = []
values m (high ∷ []) = []
values m (high ∷ (low ∷ rest)) = (sample high low *ℤ pos m) ∷ values m rest

abbrev pub is_multiple : ℕ → ℤ → Bool
is_multiple m v = unsigned_abs v % m == 0

abbrev pub all_multiples : ℕ → List ℤ → Bool
all_multiples m [] = true
all_multiples m (v ∷ vs) = is_multiple m v && all_multiples m vs

-- the least factor at which every value is a multiple of the step
abbrev pub least_factor : List ℤ → ℕ
least_factor vs = cond (all_multiples 1000 vs) 0 (cond (all_multiples 100 vs) 1 (cond (all_multiples 10 vs) 2 3))

abbrev pub sample_bytes : ℤ → List ℕ
sample_bytes z = (of_z w16 z / 256 % 256) ∷ ((of_z w16 z % 256) ∷ [])

-- the values as samples counted in the step
abbrev pub samples_of : ℕ → List ℤ → List ℕ
samples_of m [] = []
samples_of m (v ∷ vs) = sample_bytes (int_div v (pos m)) ++ samples_of m vs

-- every value in steps is a signed 16-bit number
abbrev pub Fitting : ℕ → List ℤ → Type 0
Fitting m [] = Unit {0}
Fitting m (v ∷ vs) = FitsSigned w16 (int_div v (pos m)) × Fitting m vs

-- what a record says: the numbers of its unit and sample period, and the values
pub data Sense : Type 0 where
  analog : ℕ → ℕ → List ℤ → Sense

abbrev pub sense : Sense → List ℤ
sense (analog unit period vs) = pos unit ∷ (pos period ∷ vs)

abbrev pub flags_of : Sense → ℕ
flags_of (analog unit period vs) = period * 2048 + least_factor vs * 128 + unit * 4

abbrev pub bytes_of : Sense → List ℕ
bytes_of (analog unit period vs) = samples_of (step (least_factor vs)) vs

abbrev pub says : ℕ → List ℕ → Sense
says f d = analog (unit_field f) (period_field f) (values (step (factor_field f)) d)

abbrev pub tests : ℕ → List ℕ → List (Bool × RecordRefusal)
tests f d =
    (nat_le 2 (length d), Length) ∷ ((nat_le (length d) 1400, Length) ∷ (((length d % 2 == 0), Length)
    ∷ ((nat_le (unit_field f) 4, Setting) ∷ ((nat_le 1 (period_field f), Setting) ∷ ((nat_le (period_field f) 11, Setting) ∷ [])))))

-- what the tests let through
abbrev pub reads : ℕ → List ℕ → Result Sense RecordRefusal
reads f d = tested (tests f d) (Ok (says f d))

abbrev pub codec : Codec Sense
codec = record { tests = tests; says = says; sense = sense; flags = flags_of; bytes = bytes_of }
