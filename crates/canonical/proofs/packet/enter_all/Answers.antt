use Rattle.std.proofs.Common.{◌≡◌, ℕ, List, true, is_ok, ap, ◌∙◌, ap₂, subst, sym, refl, arith}
use Rattle.records.specs.Services.{checked_by}
use Rattle.tecmp.specs.Steps.{left}
use Rattle.tecmp.specs.Views.{viewed}
use Rattle.tecmp.specs.declared.packet.Packet.{Packet}
use Rattle.tecmp.proofs.Walks.{Stepped, step_ok}
use Rattle.canonical.specs.Calls.{listed}
use Rattle.canonical.specs.States.{after, put, after_all, put_all}
use Rattle.canonical.specs.declared.state.Extent.{Extent}
use Rattle.canonical.proofs.Growth.{grows_all}
use Rattle.canonical.proofs.Walked.{listed_more}
use Rattle.canonical.proofs.packet.enter_all.Given.{Over}
use Rattle.canonical.proofs.packet.enter_all.Goals as goal
use Rattle.canonical.proofs.packet.enter_all.Goals.{In-Some-Ok}

-- what was read
step : (g : Over) (c : In-Some-Ok g) → Stepped g.R.Registry.services c.loop-view.entries (viewed c.in-Some-Ok.view) c.next.new.self
step g c = step_ok g.R.Registry.services c.loop-view.entries c.in-Some-Ok.field-0 c.in-Some-Ok.view c.next.new.self c.in-Some-Ok.ensures.steps c.in-Some-Ok.field-0-is

pub checked-entry-requires : goal.checked-entry-requires
checked-entry-requires g c =
    let e = viewed c.in-Some-Ok.view in
    subst (λ (p : Packet _). is_ok (checked_by (g.R.Registry.services p.registry.now e.code) e.flags e.bytes) ≡ true) c.loop-view.invariant.4
    (step g (goal.at.checked-entry-requires g c).In-Some-Ok).accepted

pub enter-reached-requires-clause-fits : goal.enter-reached-requires-clause-fits
enter-reached-requires-clause-fits g c =
    let all = g.R.Registry.services in
    let services = all c.args.packet.now.registry.now in
    let x : Extent = c.loop-view.reached in
    let e = viewed c.in-Some-Ok.view in
    let rest = left all c.next.new.self in
    let i = step g (goal.at.enter-reached-requires-clause-fits g c).In-Some-Ok in
    let one = listed_more e (left all c.loop-view.entries) rest i.rest c.loop-view.invariant.0 in
    let grows = grows_all services (after services x e) (listed rest) refl in
    let reach = c.loop-view.invariant.2 ∙ ap (after_all services x) one.1 in
    let same = ap₂ {C = Extent} (λ registry e. after (all registry) x e) c.checked-entry.ensures.registry c.checked-entry.ensures.view in
    omega (arith, grows, ap (λ (y : Extent). y.length) reach, ap (λ (y : Extent). y.length) same)

pub loop-view-preserved : goal.loop-view-preserved
loop-view-preserved g c =
    let all = g.R.Registry.services in
    let services = all c.args.packet.now.registry.now in
    let stream = c.args.stream in
    let x : Extent = c.loop-view.reached in
    let out = c.loop-view.out in
    let e = viewed c.in-Some-Ok.view in
    let rest = left all c.next.new.self in
    let i = step g (goal.at.loop-view-preserved g c).In-Some-Ok in
    let one = listed_more e (left all c.loop-view.entries) rest i.rest c.loop-view.invariant.0 in
    let grows = grows_all services (after services x e) (listed rest) refl in
    let reach = c.loop-view.invariant.2 ∙ ap (after_all services x) one.1 in
    let extent = c.enter-reached.ensures.extent
    ∙ ap₂ {C = Extent} (λ registry e. after (all registry) x e) c.checked-entry.ensures.registry c.checked-entry.ensures.view in
    let output = c.enter-reached.ensures.output
    ∙ ap₂ {C = List ℕ} (λ registry e. put (all registry) stream x e out) c.checked-entry.ensures.registry c.checked-entry.ensures.view in (
      one.0,
      omega (arith, grows, ap (λ (y : Extent). y.length) extent, ap (λ (y : Extent). y.length) reach),
      reach ∙ ap (λ y. after_all services y (listed rest)) (sym extent),
      c.loop-view.invariant.3 ∙ ap (λ es. put_all services stream x es out) one.1
          ∙ ap₂ {C = List ℕ} (λ y o. put_all services stream y (listed rest) o) (sym extent) (sym output),
      i.packet ∙ c.loop-view.invariant.4,
    )
