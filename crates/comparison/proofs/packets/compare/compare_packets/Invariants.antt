use Rattle.std.proofs.Common.{◌+◌, ◌≤◌, length}
use Rattle.tecmp.specs.Steps.{steps_left}
use Rattle.comparison.specs.Comparing.{statements}
use Rattle.comparison.proofs.Steps.{Agree}
use Rattle.comparison.proofs.packets.compare.compare_packets.Given as goal

abbrev pub invariant-loop-entry : goal.invariant-loop-entry
invariant-loop-entry g l =
    let services = g.R.Registry.services in
    let pairs = l.entry-iterator.iter in
    (goal.iterator-loop-entry g).can_next l.entry-iterator
    × (goal.iterator-loop-entry g).is_finite l.entry-iterator
    × (l.entry-iterator.count + steps_left pairs.a ≤ length l.fn.first + 1)
    × Agree services l.registry (statements (services l.registry) l.fn.first) (statements (services l.registry) l.fn.second) pairs.a pairs.b l.entry-iterator.count
