-- What the code's readings say.
use Rattle.std.specs.Prelude.{List, ℤ, Ok, Err, Result}
use Rattle.records.specs.declared.refusal.RecordRefusal.{RecordRefusal}
use Rattle.kind_analog.specs.declared.reading.AnalogReading.{AnalogReading}
use Rattle.kind_analog.specs.declared.reading.Values.{Values}
use Rattle.kind_analog.specs.declared.samples.Samples.{Samples}
use Rattle.kind_analog.specs.Analog.{Sense, analog, values}
use Rattle.kind_analog.specs.Settings.{unit_number, period_number, step_of}

abbrev pub values_in : Samples → List ℤ
values_in s = values (step_of s.factor) s.bytes.now

abbrev pub values_of : AnalogReading → List ℤ
values_of r = values_in r.samples

-- what an iterator over them has left
abbrev pub values_left : Values → List ℤ
values_left v = values_in v.samples

abbrev pub said : AnalogReading → Sense
said r = analog (unit_number r.unit) (period_number r.period) (values_of r)

-- what `read_analog` answers
abbrev pub answered : Result AnalogReading RecordRefusal → Result Sense RecordRefusal
answered (Ok r) = Ok (said r)
answered (Err refusal) = Err refusal
