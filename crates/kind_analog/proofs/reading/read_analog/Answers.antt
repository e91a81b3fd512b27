use Rattle.std.proofs.Common.{Ok, ap, ◌∙◌, arith}
use Rattle.std.proofs.lemmas.Bool.Decides.{nat_tests}
use Rattle.records.specs.Tests.{Passed}
use Rattle.records.proofs.Tested.{tested_passed}
use Rattle.kind_analog.specs.Analog.{tests, says, unit_field, period_field}
use Rattle.kind_analog.specs.Settings.{unit_read, period_read}
use Rattle.kind_analog.proofs.Lookups.{unit_found, period_found}
use Rattle.kind_analog.proofs.reading.read_analog.Goals as goal

pub returns : goal.returns
returns c =
    let f = c.args.flags in
    let d = c.args.data.now in
    let unit = unit_found (unit_field f) c.in_ok-unit.unit (c.in_ok-unit.ensures ∙ ap unit_read c.unit_field.ensures) in
    let period = period_found (period_field f) c.in_ok-period.period (c.in_ok-period.ensures ∙ ap period_read c.period_field.ensures) in
    let p : Passed (tests f d) = grind (arith, nat_tests) in
    rw (tested_passed (tests f d) (Ok (says f d)) p) (rw (unit.0, period.0, c.of_flags.ensures))
