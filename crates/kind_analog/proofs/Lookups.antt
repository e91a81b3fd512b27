-- The settings that have a number. Assumes nothing.
use Rattle.std.proofs.Common.{◌≡◌, ℕ, ◌≤◌, Ok, arith}
use Rattle.std.proofs.lemmas.Bool.Decides.{nat_tests}
use Rattle.kind_analog.specs.declared.setting.Unit.{Unit as UnitName}
use Rattle.kind_analog.specs.declared.setting.SamplePeriod.{SamplePeriod}
use Rattle.kind_analog.specs.Settings.{unit_number, unit_read, period_number, period_read}

pub unit_found : (n : ℕ) (u : UnitName) → Ok u ≡ unit_read n → (n ≡ unit_number u) × (n ≤ 4)
unit_found n u e = grind (arith, nat_tests)

pub period_found : (n : ℕ) (t : SamplePeriod) → Ok t ≡ period_read n → (n ≡ period_number t) × (1 ≤ n) × (n ≤ 11)
period_found n t e = grind (arith, nat_tests)
