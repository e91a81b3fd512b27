use Rattle.std.proofs.Common.{◌≡◌, map, take}
use Rattle.kind_bytes.specs.Layouts.{low7}
use Rattle.kind_bytes.proofs.record.write_seven.Given as goal

abbrev pub invariant-loop-i : goal.invariant-loop-i
invariant-loop-i l = take l.i l.part ≡ map low7 (take l.i l.data)
