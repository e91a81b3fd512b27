use Rattle.std.proofs.Common.{◌≡◌, ◌≤◌, true, is_ok}
use Rattle.tecmp.specs.Packets.{packet_entries}
use Rattle.tecmp.specs.Steps.{left, steps_left}
use Rattle.canonical.specs.Calls.{listed}
use Rattle.canonical.specs.States.{after_all, put_all}
use Rattle.canonical.proofs.packet.enter_all.Given as goal

-- the entries that are left lead from here to where all lead from the start, in numbers and in the output
abbrev pub invariant-loop-view : goal.invariant-loop-view
invariant-loop-view g l =
    let services = g.R.Registry.services l.packet.registry.now in
    let all = listed (packet_entries g.R.Registry.services l.packet 12) in
    let rest = left g.R.Registry.services l.entries in
    (is_ok rest ≡ true)
    × (l.reached.length ≤ 16777216)
    × (after_all services l.fn.extent all ≡ after_all services l.reached (listed rest))
    × (put_all services l.stream l.fn.extent all l.initial.out ≡ put_all services l.stream l.reached (listed rest) l.out)
    × (l.entries.packet ≡ l.packet)

abbrev pub decreases-loop-view : goal.decreases-loop-view
decreases-loop-view g l = steps_left l.entries
