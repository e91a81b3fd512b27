use Rattle.std.proofs.Common.{◌+◌, ◌≤◌}
use Rattle.copy_reader.specs.Readers.{left}
use Rattle.canonical.specs.States.{nothing, after_all}
use Rattle.canonical.proofs.Entered.{Leads}
use Rattle.canonical.proofs.recopy.fits.Given as goal

-- so far the copy fits
abbrev pub invariant-loop-view : goal.invariant-loop-view
invariant-loop-view g l =
    let services = g.R.Registry.services l.registry in
    (goal.iterator-loop-view g).can_next l.view-iterator
    × (goal.iterator-loop-view g).is_finite l.view-iterator
    × Leads services (after_all services nothing (left l.fn.entries)) l.reached (left l.view-iterator)
    × (l.reached.length + 4 ≤ l.capacity)
