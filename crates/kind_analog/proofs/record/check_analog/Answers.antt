use Rattle.std.proofs.Common.{Ok, sym}
use Rattle.records.proofs.Codecs.{checks}
use Rattle.records.proofs.Tested.{passed}
use Rattle.kind_analog.specs.Analog.{codec, tests, says}
use Rattle.kind_analog.specs.Canonical.{sound}
use Rattle.kind_analog.specs.Readings.{said}
use Rattle.kind_analog.proofs.record.check_analog.Goals as goal

-- data that was read has as many canonical bytes
pub returns : goal.returns
returns c =
    let f = c.args.flags in
    let d = c.args.data.now in
    checks codec sound f d (passed (tests f d) (Ok (says f d)) (said c.in_ok-read_analog.field-0) (sym c.in_ok-read_analog.ensures)).0
