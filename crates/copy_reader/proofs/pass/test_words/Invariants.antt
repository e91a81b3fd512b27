use Rattle.std.proofs.Common.{◌≡◌, ◌-◌, ◌≤◌, length}
use Rattle.copy_format.specs.ReadingBack.{packets_from}
use Rattle.copy_reader.specs.Passing.{tried}
use Rattle.copy_reader.proofs.pass.test_words.Given as goal

-- what the rest comes to, the whole comes to
abbrev pub invariant-loop-bytes : goal.invariant-loop-bytes
invariant-loop-bytes g l =
    let services = g.R.Registry.services l.registry in
    record {
      within : l.offset ≤ length l.copy;
      few : l.count ≤ l.offset;
      same : tried (packets_from services l.stream l.copy 0 0) ≡ tried (packets_from services l.stream l.copy l.offset l.count);
    }

abbrev pub decreases-loop-bytes : goal.decreases-loop-bytes
decreases-loop-bytes g l = length l.copy - l.offset
