use Rattle.std.proofs.Common.{◌≡◌, ◌+◌, ◌*◌, ◌≤◌}
use Rattle.tecmp.specs.Packets.{packet_entries}
use Rattle.tecmp.specs.Steps.{left, steps_left}
use Rattle.canonical.specs.Surveys.{surveyed}
use Rattle.canonical.proofs.packet.survey.Given as goal

-- the entries that are left lead from here to where all lead from the start; an entry has 17 bytes or more, and adds at most 1,507
abbrev pub invariant-loop-entry : goal.invariant-loop-entry
invariant-loop-entry g l =
    let services = g.R.Registry.services l.packet.registry.now in
    (goal.iterator-loop-entry g).can_next l.entry-iterator
    × (goal.iterator-loop-entry g).is_finite l.entry-iterator
    × (surveyed services l.fn.extent (packet_entries g.R.Registry.services l.packet 12) ≡ surveyed services l.reached (left g.R.Registry.services l.entry-iterator))
    × (l.reached.length + 89 * steps_left l.entry-iterator ≤ 16910805)
    × (l.entry-iterator.packet ≡ l.packet)
