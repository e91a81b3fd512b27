-- The numbers of the units, sample periods and factors.
use Rattle.std.specs.Prelude.{ℕ, List, ◌∷◌, codes, cond, Some, None, Option, Result, ◌==◌}
use Rattle.std.specs.Option.{ok_or}
use Rattle.records.specs.declared.refusal.RecordRefusal.{RecordRefusal}
use Rattle.records.specs.declared.refusal.RecordRefusal.TheVariants.{Setting}
use Rattle.kind_analog.specs.Analog.{step}
use Rattle.kind_analog.specs.declared.setting.Unit.{Unit as UnitName}
use Rattle.kind_analog.specs.declared.setting.Unit.TheVariants.{Volt, Ampere, Watt, AmpereHour, Celsius}
use Rattle.kind_analog.specs.declared.setting.SamplePeriod.{SamplePeriod}
use Rattle.kind_analog.specs.declared.setting.SamplePeriod.TheVariants.{Ms2500, Ms1000, Ms500, Ms250, Ms100, Ms50, Ms25, Ms10, Ms5, Us2500, Ms1}
use Rattle.kind_analog.specs.declared.setting.Factor.{Factor}
use Rattle.kind_analog.specs.declared.setting.Factor.TheVariants.{Tenth, Hundredth, Thousandth, TenThousandth}

abbrev pub unit_number : UnitName → ℕ
unit_number Volt = 0
unit_number Ampere = 1
unit_number Watt = 2
unit_number AmpereHour = 3
unit_number Celsius = 4

abbrev pub unit_of : ℕ → Option UnitName
unit_of n =
    cond (n == 0) (Some Volt) (cond (n == 1) (Some Ampere) (cond (n == 2) (Some Watt)
    (cond (n == 3) (Some AmpereHour) (cond (n == 4) (Some Celsius) None))))

-- the same, or the refusal of any other number
abbrev pub unit_read : ℕ → Result UnitName RecordRefusal
unit_read n = ok_or (unit_of n) Setting

-- what is printed of it, in UTF-8
abbrev pub unit_symbol : UnitName → List ℕ
unit_symbol Volt = codes "V"
unit_symbol Ampere = codes "A"
unit_symbol Watt = codes "W"
unit_symbol AmpereHour = codes "Ah"
unit_symbol Celsius = 0xC2 ∷ (0xB0 ∷ codes "C")

abbrev pub period_number : SamplePeriod → ℕ
period_number Ms2500 = 1
period_number Ms1000 = 2
period_number Ms500 = 3
period_number Ms250 = 4
period_number Ms100 = 5
period_number Ms50 = 6
period_number Ms25 = 7
period_number Ms10 = 8
period_number Ms5 = 9
period_number Us2500 = 10
period_number Ms1 = 11

abbrev pub period_of : ℕ → Option SamplePeriod
period_of n =
    cond (n == 1) (Some Ms2500) (cond (n == 2) (Some Ms1000) (cond (n == 3) (Some Ms500)
    (cond (n == 4) (Some Ms250) (cond (n == 5) (Some Ms100) (cond (n == 6) (Some Ms50)
    (cond (n == 7) (Some Ms25) (cond (n == 8) (Some Ms10) (cond (n == 9) (Some Ms5)
    (cond (n == 10) (Some Us2500) (cond (n == 11) (Some Ms1) None))))))))))

abbrev pub period_read : ℕ → Result SamplePeriod RecordRefusal
period_read n = ok_or (period_of n) Setting

abbrev pub period_microseconds : SamplePeriod → ℕ
period_microseconds Ms2500 = 2500000
period_microseconds Ms1000 = 1000000
period_microseconds Ms500 = 500000
period_microseconds Ms250 = 250000
period_microseconds Ms100 = 100000
period_microseconds Ms50 = 50000
period_microseconds Ms25 = 25000
period_microseconds Ms10 = 10000
period_microseconds Ms5 = 5000
period_microseconds Us2500 = 2500
period_microseconds Ms1 = 1000

abbrev pub factor_number : Factor → ℕ
factor_number Tenth = 0
factor_number Hundredth = 1
factor_number Thousandth = 2
factor_number TenThousandth = 3

-- the ten-thousandths of the unit that a sample is counted in
abbrev pub step_of : Factor → ℕ
step_of factor = step (factor_number factor)
