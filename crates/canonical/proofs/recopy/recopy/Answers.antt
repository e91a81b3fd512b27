use Rattle.std.proofs.Common.{◌≡◌, ℕ, ◌+◌, ◌<◌, true, false, leb, List, length, sym, ap, ap₂, ◌∙◌, subst, arith}
use Rattle.std.proofs.ByRecursion.{All-from_get_or}
use Rattle.std.proofs.lemmas.Result.{err_from_is_err_and}
use Rattle.std.proofs.lemmas.Bool.{leb-true}
use Rattle.copy_format.specs.Cutting.{flat}
use Rattle.copy_format.specs.Image.{word}
use Rattle.canonical.specs.Calls.{may_open, closing}
use Rattle.canonical.specs.declared.state.Extent.{Extent}
use Rattle.canonical.specs.declared.state.Closed.{Closed}
use Rattle.canonical.specs.Recopying.{Served}
use Rattle.canonical.specs.States.{nothing, spliced, after_all, put_all}
use Rattle.canonical.proofs.Recopied.{same_again, one_copy}
use Rattle.canonical.proofs.Recopies.{not_read, served, wrong_length, no_room, copied_as}
use Rattle.canonical.proofs.recopy.recopy.Goals as goal

pub returns-in_err-entries : goal.returns-in_err-entries
returns-in_err-entries g c =
    let services = g.R.Registry.services c.args.registry.now in
    let law = g.met.R.Registry.lawful c.args.registry.now in
    let p = err_from_is_err_and c.from_residual.result c.from_residual.ensures.1 in
    record {
      copy = rw (p.1, p.2) (not_read services c.args.recording.now c.args.out.now c.in_err-entries.field-0.0 c.in_err-entries.ensures.back);
      within = rw p.1 tt;
      again = same_again services law;
      one = one_copy services law;
    }

pub returns-then-not-may_open : goal.returns-then-not-may_open
returns-then-not-may_open g c =
    let services = g.R.Registry.services c.args.registry.now in
    let law = g.met.R.Registry.lawful c.args.registry.now in
    let bytes = All-from_get_or (λ x. x < 256) c.args.recording.now 0 (λ i _. (c.type_inv.recording i).fits) in
    let wrong : may_open (length c.args.out.now) ≡ false = let e = c.may_open.ensures in let h = c.if-not-may_open.true in cc in
    record {
      copy = wrong_length services law c.args.recording.now bytes _ c.in_ok-entries.ensures.back.1 c.args.out.now wrong;
      within = tt;
      again = same_again services law;
      one = one_copy services law;
    }

pub fits-requires-clause-served : goal.fits-requires-clause-served
fits-requires-clause-served g c =
    let services = g.R.Registry.services c.args.registry.now in
    let law = g.met.R.Registry.lawful c.args.registry.now in
    let bytes = All-from_get_or (λ x. x < 256) c.args.recording.now 0 (λ i _. (c.type_inv.recording i).fits) in
    let read = c.in_ok-entries.ensures.back in
    subst (Served services) (sym (c.again.ensures.left ∙ read.2)) (served services law c.args.recording.now bytes _ read.1 c.args.out.now)

pub returns-then-not-fits : goal.returns-then-not-fits
returns-then-not-fits g c =
    let services = g.R.Registry.services c.args.registry.now in
    let law = g.met.R.Registry.lawful c.args.registry.now in
    let bytes = All-from_get_or (λ x. x < 256) c.args.recording.now 0 (λ i _. (c.type_inv.recording i).fits) in
    let read = c.in_ok-entries.ensures.back in
    let right : may_open (length c.args.out.now) ≡ true = let e = c.may_open.ensures in let h = c.if-not-may_open.false in cc in
    let full : c.fits.result ≡ false = let h = c.if-not-fits.true in cc in
    let same = ap (λ es. leb ((after_all services nothing es).length + 4) (length c.args.out.now)) (sym (c.again.ensures.left ∙ read.2)) ∙ sym c.fits.ensures ∙ full in
    record {
      copy = no_room services law c.args.recording.now bytes _ read.1 c.args.out.now right same;
      within = tt;
      again = same_again services law;
      one = one_copy services law;
    }

pub enter_entries-requires-clause-served : goal.enter_entries-requires-clause-served
enter_entries-requires-clause-served g c =
    let services = g.R.Registry.services c.args.registry.now in
    let law = g.met.R.Registry.lawful c.args.registry.now in
    let bytes = All-from_get_or (λ x. x < 256) c.args.recording.now 0 (λ i _. (c.type_inv.recording i).fits) in
    let read = c.in_ok-entries.ensures.back in
    subst (Served services) (sym read.2) (served services law c.args.recording.now bytes _ read.1 c.args.out.now)

pub enter_entries-requires-clause-fits : goal.enter_entries-requires-clause-fits
enter_entries-requires-clause-fits g c =
    let services = g.R.Registry.services c.args.registry.now in
    let enough : c.fits.result ≡ true = let h = c.if-not-fits.false in cc in
    let same = ap (λ es. leb ((after_all services nothing es).length + 4) (length c.args.out.now)) (sym c.again.ensures.left) ∙ sym c.fits.ensures ∙ enough in
    leb-true _ _ same

pub returns : goal.returns
returns g c =
    let services = g.R.Registry.services c.args.registry.now in
    let law = g.met.R.Registry.lawful c.args.registry.now in
    let bytes = All-from_get_or (λ x. x < 256) c.args.recording.now 0 (λ i _. (c.type_inv.recording i).fits) in
    let read = c.in_ok-entries.ensures.back in
    let out = c.args.out.now in
    let right : may_open (length c.args.out.now) ≡ true = let e = c.may_open.ensures in let h = c.if-not-may_open.false in cc in
    let enough : c.fits.result ≡ true = let h = c.if-not-fits.false in cc in
    let room = ap (λ es. leb ((after_all services nothing es).length + 4) (length c.args.out.now)) (sym (c.again.ensures.left ∙ read.2)) ∙ sym c.fits.ensures ∙ enough in
    let extent = c.extent-reached.ensures.is ∙ c.enter_entries.ensures.extent ∙ ap (after_all services nothing) read.2 in
    let closings = c.closing.ensures ∙ ap (λ (x : Extent). closing (record { stream = c.stream-stream.result; capacity = length out; extent = x })) extent in
    let o : List ℕ = c.enter_entries.new.out in
    let filled = c.enter_entries.ensures.output ∙ ap₂ {C = List ℕ} (λ stream es. put_all services stream nothing es out) c.stream-stream.ensures read.2 in
    let outputs = c.put.ensures
    ∙ ap (spliced o c.extent-reached.result.length) c.word.ensures
    ∙ ap (λ (x : Extent). spliced o x.length (word 2 x.entries)) extent
    ∙ ap (λ p. spliced p (after_all services nothing (flat read.0)).length (word 2 (after_all services nothing (flat read.0)).entries)) filled in
    record {
      copy = copied_as services law c.args.recording.now bytes _ read.1 out right room _ _ closings outputs;
      within = omega (arith, ap (λ (x : Closed). x.bytes) closings, leb-true _ _ room);
      again = same_again services law;
      one = one_copy services law;
    }
