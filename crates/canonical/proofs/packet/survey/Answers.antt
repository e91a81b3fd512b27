use Rattle.std.proofs.Common.{ap, ◌∙◌, ap₂, sym, arith}
use Rattle.tecmp.specs.Steps.{left}
use Rattle.tecmp.specs.Views.{viewed}
use Rattle.tecmp.proofs.Walks.{step_ok}
use Rattle.canonical.specs.States.{after}
use Rattle.canonical.specs.Surveys.{surveyed}
use Rattle.canonical.specs.declared.state.Extent.{Extent}
use Rattle.canonical.proofs.Walked.{surveyed_more}
use Rattle.canonical.proofs.packet.survey.Goals as goal

pub loop-entry-preserved : goal.loop-entry-preserved
loop-entry-preserved g c =
    let all = g.R.Registry.services in
    let services = all c.args.packet.now.registry.now in
    let x : Extent = c.loop-entry.reached in
    let view = c.in_ok-entry.field-0 in
    let i = step_ok all c.loop-entry.entry-iterator c.in-Some.entry view c.next.new.self c.in-Some.ensures.steps c.in_ok-entry.was in
    let rest = left all c.next.new.self in
    let grown = c.extend-reached.ensures.is ∙ ap₂ {C = Extent} (λ registry e. after (all registry) x e) c.checked-entry.ensures.registry c.checked-entry.ensures.view in (
      tt,
      tt,
      c.loop-entry.invariant.2 ∙ ap (surveyed services x) i.rest ∙ surveyed_more services x (viewed view) rest ∙ ap (λ y. surveyed services y rest) (sym grown),
      omega (arith, i.fewer),
      i.packet ∙ c.loop-entry.invariant.4,
    )
