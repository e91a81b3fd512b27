use Rattle.std.proofs.Common.{◌≡◌, ◌≤◌}
use Rattle.copy_reader.specs.Readers.{left}
use Rattle.canonical.specs.States.{nothing, after_all, put_all}
use Rattle.canonical.proofs.Entered.{Leads}
use Rattle.canonical.proofs.recopy.enter_entries.Given as goal

-- the same of the output
abbrev pub invariant-loop-view : goal.invariant-loop-view
invariant-loop-view g l =
    let services = g.R.Registry.services l.registry in
    (goal.iterator-loop-view g).can_next l.view-iterator
    × (goal.iterator-loop-view g).is_finite l.view-iterator
    × Leads services (after_all services nothing (left l.fn.entries)) l.reached (left l.view-iterator)
    × (l.reached.length ≤ 16777216)
    × (put_all services l.stream nothing (left l.fn.entries) l.fn.out ≡ put_all services l.stream l.reached (left l.view-iterator) l.out)
