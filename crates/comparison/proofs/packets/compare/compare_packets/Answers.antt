use Rattle.std.proofs.Common.{inl, ap, ◌∙◌, arith}
use Rattle.std.proofs.Math.Nat.{min-le_left}
use Rattle.std.proofs.lemmas.Result.{err_from_is_err_and}
use Rattle.tecmp.specs.Views.{viewed}
use Rattle.tecmp.specs.Steps.{steps_left}
use Rattle.comparison.specs.Comparing.{statements}
use Rattle.comparison.proofs.Steps.{Whole, Next, mapped_ok, not_opened, not_counted, whole, next, none_yet, one_more, differ, at_end}
use Rattle.comparison.proofs.packets.compare.compare_packets.Given as given
use Rattle.comparison.proofs.packets.compare.compare_packets.Goals as goal
use Rattle.comparison.proofs.packets.compare.compare_packets.Goals.{After-open-2, After-into_iter-entry-iterator, In_ok-other}

-- each packet as it was read
first : (g : given.Over) (c : After-open-2 g) → Whole g.R.Registry.services c.args.registry.now c.args.first.now c.in_ok-first.first c.in_ok-count.count
first g c =
    let e = c.open.ensures in
    whole g.R.Registry.services _ _ _ _ _ e.head e.of c.map_err.ensures.cases _ c.in_ok-first.was _ _ _ c.count.ensures c.map_err-2.ensures.cases _ c.in_ok-count.was

second : (g : given.Over) (c : After-into_iter-entry-iterator g) → Whole g.R.Registry.services c.args.registry.now c.args.second.now c.in_ok-second.second c.in_ok-other_count.other_count
second g c =
    let e = c.open-2.ensures in
    whole g.R.Registry.services _ _ _ _ _ e.head e.of c.map_err-3.ensures.cases _ c.in_ok-second.was _ _ _ c.count-2.ensures c.map_err-4.ensures.cases _ c.in_ok-other_count.was

pub returns-in_err-first : goal.returns-in_err-first
returns-in_err-first g c =
    let p = err_from_is_err_and c.from_residual.result c.from_residual.ensures.1 in
    let e = c.open.ensures in
    let d = not_opened g.R.Registry.services _ _ _ _ _ e.head e.of c.map_err.ensures.cases _ c.in_err-first.was in
    rw (p.1, p.2, d.1) d.2

pub returns-in_err-count : goal.returns-in_err-count
returns-in_err-count g c =
    let p = err_from_is_err_and c.from_residual-in_err-count.result c.from_residual-in_err-count.ensures.1 in
    let e = c.open.ensures in
    let d = not_counted g.R.Registry.services _ _ _ _ _ e.head e.of c.map_err.ensures.cases _ c.in_ok-first.was _ _ _ c.count.ensures c.map_err-2.ensures.cases _ c.in_err-count.was in
    rw (p.1, p.2, d.1) d.2

pub returns-in_err-second : goal.returns-in_err-second
returns-in_err-second g c =
    let p = err_from_is_err_and c.from_residual-in_err-second.result c.from_residual-in_err-second.ensures.1 in
    let e = c.open-2.ensures in
    let d = not_opened g.R.Registry.services _ _ _ _ _ e.head e.of c.map_err-3.ensures.cases _ c.in_err-second.was in
    rw (p.1, p.2, d.1) ((first g (goal.at.returns-in_err-second g c).After-open-2).ok, d.2)

pub returns-in_err-other_count : goal.returns-in_err-other_count
returns-in_err-other_count g c =
    let p = err_from_is_err_and c.from_residual-in_err-other_count.result c.from_residual-in_err-other_count.ensures.1 in
    let e = c.open-2.ensures in
    let d = not_counted g.R.Registry.services _ _ _ _ _ e.head e.of c.map_err-3.ensures.cases _ c.in_ok-second.was _ _ _ c.count-2.ensures c.map_err-4.ensures.cases _ c.in_err-other_count.was in
    rw (p.1, p.2, d.1) ((first g (goal.at.returns-in_err-other_count g c).After-open-2).ok, d.2)

pub loop-entry-init : goal.loop-entry-init
loop-entry-init g c =
    let i = c.into_iter-entry-iterator.ensures.into_iter_gives in
    let pairs = ap (λ x. x.iter) i ∙ c.enumerate-entry-items.ensures.source in
    let none = ap (λ x. x.count) i ∙ c.enumerate-entry-items.ensures.count in
    let a = ap (λ x. x.a) pairs ∙ c.zip.ensures.first ∙ c.entries.ensures in
    let b = ap (λ x. x.b) pairs ∙ c.zip.ensures.second ∙ c.entries-2.ensures in
    let few = ap steps_left a in
    let one = first g (goal.at.loop-entry-init g c).After-open-2 in
    let size = one.size in
    let least = min-le_left (steps_left c.into_iter-entry-iterator.result.iter.a) (steps_left c.into_iter-entry-iterator.result.iter.b) in
    (((tt, tt), tt, inl (omega arith)), tt, omega arith, none_yet _ _ _ _ _ _ _ _ _ _ _ one (second g c) a b none)

-- the entries that come next
one : (g : given.Over) (c : In_ok-other g)
    → Next g.R.Registry.services c.args.registry.now (statements (g.R.Registry.services c.args.registry.now) c.args.first.now) c.loop-entry.invariant.3.done c.loop-entry.entry-iterator.iter.a (viewed c.in_ok-one.one) c.next.new.self.iter.a
one g c =
    let was = mapped_ok _ c.in-Some.one c.map_err-in-loop-entry.result c.in_ok-one.one c.map_err-in-loop-entry.ensures.cases c.in_ok-one.was in
    next _ _ _ _ c.loop-entry.entry-iterator.iter.a c.next.new.self.iter.a c.loop-entry.invariant.3.first c.in-Some.one c.in_ok-one.one c.in-Some.ensures.steps.0.0 was

other : (g : given.Over) (c : In_ok-other g)
    → Next g.R.Registry.services c.args.registry.now (statements (g.R.Registry.services c.args.registry.now) c.args.second.now) c.loop-entry.invariant.3.done c.loop-entry.entry-iterator.iter.b (viewed c.in_ok-other.other) c.next.new.self.iter.b
other g c =
    let was = mapped_ok _ c.in-Some.other c.map_err-in-loop-entry-2.result c.in_ok-other.other c.map_err-in-loop-entry-2.ensures.cases c.in_ok-other.was in
    next _ _ _ _ c.loop-entry.entry-iterator.iter.b c.next.new.self.iter.b c.loop-entry.invariant.3.second c.in-Some.other c.in_ok-other.other c.in-Some.ensures.steps.0.1 was

pub first_difference-requires-clause-first : goal.first_difference-requires-clause-first
first_difference-requires-clause-first g c = (one g c).accepted

pub first_difference-requires-clause-second : goal.first_difference-requires-clause-second
first_difference-requires-clause-second g c = (other g c).accepted

pub returns-in-Some-first_difference : goal.returns-in-Some-first_difference
returns-in-Some-first_difference g c =
    let e = (goal.at.returns-in-Some-first_difference g c).In_ok-other in
    let a = first g (goal.at.returns-in-Some-first_difference g c).After-open-2 in
    let b = second g (goal.at.returns-in-Some-first_difference g c).After-into_iter-entry-iterator in
    (a.ok, b.ok, differ _ _ _ _ _ _ _ c.loop-entry.invariant.3 _ _ _ _ _ c.in-Some-first_difference.field (one g e) (other g e) c.in-Some-first_difference.ensures c.in-Some.ensures.steps.1)

pub loop-entry-preserved : goal.loop-entry-preserved
loop-entry-preserved g c =
    let e = (goal.at.loop-entry-preserved g c).In_ok-other in
    let i = one g e in
    let more = c.in-Some.ensures.steps.2 in
    let least = min-le_left (steps_left c.next.new.self.iter.a) (steps_left c.next.new.self.iter.b) in
    let before = c.loop-entry.invariant.2 in
    (((tt, tt), tt, inl (omega (arith, i.fewer))), tt, omega (arith, i.fewer), one_more _ _ _ _ _ _ _ c.loop-entry.invariant.3 _ _ _ _ _ i (other g e) c.in_default.ensures more)

pub returns-then-count-other_count : goal.returns-then-count-other_count
returns-then-count-other_count g c =
    let a = first g (goal.at.returns-then-count-other_count g c).After-open-2 in
    let b = second g (goal.at.returns-then-count-other_count g c).After-into_iter-entry-iterator in
    rw c.min.ensures (a.ok, b.ok, (at_end _ _ _ _ _ _ _ c.loop-entry.invariant.3 _ _ c.in-None.ensures.steps.0 a.count b.count).1 c.if-count-other_count.true)

pub returns : goal.returns
returns g c =
    let a = first g (goal.at.returns g c).After-open-2 in
    let b = second g (goal.at.returns g c).After-into_iter-entry-iterator in
    (a.ok, b.ok, (at_end _ _ _ _ _ _ _ c.loop-entry.invariant.3 _ _ c.in-None.ensures.steps.0 a.count b.count).0 c.if-count-other_count.false)
