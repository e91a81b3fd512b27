use Rattle.std.proofs.Common.{List, ℕ, length, sym, ap, ap₂, ◌∙◌, arith}
use Rattle.copy_reader.specs.Readers.{left}
use Rattle.tecmp.specs.Views.{viewed}
use Rattle.canonical.specs.declared.state.Extent.{Extent}
use Rattle.canonical.specs.States.{after, put, put_all}
use Rattle.canonical.proofs.Entered.{starts, here, further, ended, fits_on, put_further}
use Rattle.canonical.proofs.recopy.enter_entries.Goals as goal

pub loop-view-init : goal.loop-view-init
loop-view-init g c =
    let services = g.R.Registry.services c.args.registry.now in
    let fresh = c.nothing-reached.ensures in
    let same = ap left c.into_iter-view-iterator.ensures.into_iter_gives in
    let lead = starts services c.nothing-reached.result (left c.args.entries) _ fresh same c.requires.served in (
      tt,
      tt,
      lead,
      omega (arith, ap (λ (x : Extent). x.length) fresh),
      ap₂ {C = List ℕ} (λ x es. put_all services c.args.stream x es c.args.out.now) (sym fresh) (sym same),
    )

pub checked-requires : goal.checked-requires
checked-requires g c = (here _ _ _ _ _ _ c.loop-view.invariant.2 c.in-Some.ensures.steps.0).0

pub enter-reached-requires-clause-fits : goal.enter-reached-requires-clause-fits
enter-reached-requires-clause-fits g c =
    let all = g.R.Registry.services in
    let services = all c.args.registry.now in
    let x : Extent = c.loop-view.reached in
    let e = viewed c.in-Some.view in
    let same = ap₂ {C = Extent} (λ registry f. after (all registry) x f) c.checked.ensures.registry c.checked.ensures.view in
    let fits = fits_on services _ x _ e _ _ (length c.args.out.now) c.loop-view.invariant.2 c.in-Some.ensures.steps.0 same c.requires.fits in
    omega (arith, fits, c.loop-view.auto.out)

pub loop-view-preserved : goal.loop-view-preserved
loop-view-preserved g c =
    let all = g.R.Registry.services in
    let services = all c.args.registry.now in
    let stream = c.args.stream in
    let x : Extent = c.loop-view.reached in
    let o = c.loop-view.out in
    let e = viewed c.in-Some.view in
    let first = c.in-Some.ensures.steps.0 in
    let leads = c.loop-view.invariant.2 in
    let grown = c.enter-reached.ensures.extent
    ∙ ap₂ {C = Extent} (λ registry f. after (all registry) x f) c.checked.ensures.registry c.checked.ensures.view in
    let written = c.enter-reached.ensures.output
    ∙ ap₂ {C = List ℕ} (λ registry f. put (all registry) stream x f o) c.checked.ensures.registry c.checked.ensures.view in
    let fits = fits_on services _ x _ e _ _ (length c.args.out.now) leads first grown c.requires.fits in (
      tt,
      tt,
      further services _ x e _ _ leads first _ grown,
      omega (arith, fits, c.requires.bounded),
      put_further services stream x e _ _ first _ o _ _ c.loop-view.invariant.4 grown written,
    )

pub returns : goal.returns
returns g c =
    let services = g.R.Registry.services c.args.registry.now in
    let none = c.in-None.ensures.steps.0.0 in
    record {
      extent = sym (ended services _ c.loop-view.reached _ c.loop-view.invariant.2 none);
      output = sym (c.loop-view.invariant.4 ∙ ap (λ es. put_all services c.args.stream c.loop-view.reached es c.loop-view.out) none);
    }
