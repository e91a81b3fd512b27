use Rattle.std.proofs.Common.{ap, ◌∙◌, sym, arith}
use Rattle.tecmp.specs.Entries.{counted}
use Rattle.tecmp.specs.Steps.{left, steps_left}
use Rattle.tecmp.specs.Views.{viewed}
use Rattle.tecmp.proofs.Walks.{Stepped, step_ok, counted_more}
use Rattle.tecmp.proofs.packet.Packet.count.Given as given
use Rattle.tecmp.proofs.packet.Packet.count.Goals as goal

pub loop-entry-init : goal.loop-entry-init
loop-entry-init g c =
    let begins = sym (c.into_iter-entry-iterator.ensures.into_iter_gives ∙ c.entries-entry-items.ensures) in
    let few = ap steps_left begins in
    (tt, tt, omega arith, ap (λ s. counted 0 (left g.R.Registry.services s)) begins)

-- what was given
step : (g : given.Over) (c : goal.In_ok-entry g) → Stepped g.R.Registry.services c.loop-entry.entry-iterator (viewed c.in_ok-entry.field-0) c.next.new.self
step g c = step_ok g.R.Registry.services c.loop-entry.entry-iterator c.in-Some.entry c.in_ok-entry.field-0 c.next.new.self c.in-Some.ensures.steps c.in_ok-entry.was

pub overflow_add-count : goal.overflow_add-count
overflow_add-count g c = let i = step g c in omega (arith, i.fewer)

pub loop-entry-preserved : goal.loop-entry-preserved
loop-entry-preserved g c =
    let services = g.R.Registry.services in
    let i = step g c in
    (tt, tt, omega (arith, i.fewer), c.loop-entry.invariant.3 ∙ ap (counted c.loop-entry.count) i.rest ∙ counted_more c.loop-entry.count (viewed c.in_ok-entry.field-0) (left services c.next.new.self))
