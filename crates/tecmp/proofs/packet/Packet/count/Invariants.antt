use Rattle.std.proofs.Common.{◌≡◌, ◌+◌, ◌≤◌, length}
use Rattle.tecmp.specs.Entries.{counted}
use Rattle.tecmp.specs.Packets.{packet_entries}
use Rattle.tecmp.specs.Steps.{left, steps_left}
use Rattle.tecmp.proofs.packet.Packet.count.Given as goal

-- those counted and those that are left are all
abbrev pub invariant-loop-entry : goal.invariant-loop-entry
invariant-loop-entry g l =
    let services = g.R.Registry.services in
    (goal.iterator-loop-entry g).can_next l.entry-iterator
    × (goal.iterator-loop-entry g).is_finite l.entry-iterator
    × (l.count + steps_left l.entry-iterator ≤ length l.self.bytes.now + 1)
    × (counted 0 (packet_entries services l.self 12) ≡ counted l.count (left services l.entry-iterator))
