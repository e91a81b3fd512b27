use Rattle.std.proofs.Common.{◌≡◌, ◌+◌, true, false, leb, sym, ap, ap₂, ◌∙◌, arith}
use Rattle.std.proofs.lemmas.Bool.{leb-true, le-leb}
use Rattle.copy_reader.specs.Readers.{left}
use Rattle.tecmp.specs.Views.{viewed}
use Rattle.canonical.specs.declared.state.Extent.{Extent}
use Rattle.canonical.specs.States.{after}
use Rattle.canonical.proofs.Entered.{starts, here, further, longer, ended, too_long}
use Rattle.canonical.proofs.recopy.fits.Goals as goal

pub loop-view-init : goal.loop-view-init
loop-view-init g c =
    let fresh = c.nothing-reached.ensures in
    let same = ap left c.into_iter-view-iterator.ensures.into_iter_gives in
    let lead = starts (g.R.Registry.services c.args.registry.now) c.nothing-reached.result (left c.args.entries) _ fresh same c.requires.served in
    (tt, tt, lead, omega (arith, ap (λ (x : Extent). x.length) fresh, c.requires.bounded.0))

pub checked-requires : goal.checked-requires
checked-requires g c = (here _ _ _ _ _ _ c.loop-view.invariant.2 c.in-Some.ensures.steps.0).0

pub returns-then-not-fits : goal.returns-then-not-fits
returns-then-not-fits g c =
    let all = g.R.Registry.services in
    let x : Extent = c.loop-view.reached in
    let grown = c.extend-reached.ensures.is ∙ ap₂ {C = Extent} (λ registry e. after (all registry) x e) c.checked.ensures.registry c.checked.ensures.view in
    let full : leb (c.extend-reached.result.length + 4) c.args.capacity ≡ false = let e = c.fits.ensures in let h = c.if-not-fits.true in cc in
    too_long _ _ _ (longer (all c.args.registry.now) _ x (viewed c.in-Some.view) _ _ c.loop-view.invariant.2 c.in-Some.ensures.steps.0 _ grown) full

pub loop-view-preserved : goal.loop-view-preserved
loop-view-preserved g c =
    let all = g.R.Registry.services in
    let x : Extent = c.loop-view.reached in
    let grown = c.extend-reached.ensures.is ∙ ap₂ {C = Extent} (λ registry e. after (all registry) x e) c.checked.ensures.registry c.checked.ensures.view in
    let fit : leb (c.extend-reached.result.length + 4) c.args.capacity ≡ true = let e = c.fits.ensures in let h = c.if-not-fits.false in cc in
    (tt, tt, further (all c.args.registry.now) _ x (viewed c.in-Some.view) _ _ c.loop-view.invariant.2 c.in-Some.ensures.steps.0 _ grown, leb-true _ _ fit)

pub returns : goal.returns
returns g c =
    let services = g.R.Registry.services c.args.registry.now in
    let all = ended services _ c.loop-view.reached _ c.loop-view.invariant.2 c.in-None.ensures.steps.0.0 in
    sym (ap (λ (x : Extent). leb (x.length + 4) c.args.capacity) all ∙ le-leb _ _ c.loop-view.invariant.3)
