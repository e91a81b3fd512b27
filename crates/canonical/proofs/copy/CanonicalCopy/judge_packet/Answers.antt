use Rattle.std.proofs.Common.{◌≡◌, ◌+◌, Result, true, false, leb, ap, ◌∙◌}
use Rattle.std.proofs.lemmas.Result.{err_from_is_err_and}
use Rattle.records.specs.declared.refusal.Refusal.{Refusal}
use Rattle.tecmp.specs.Packets.{packet_entries}
use Rattle.tecmp.specs.declared.packet.Packet.{Packet}
use Rattle.canonical.specs.Surveys.{surveyed}
use Rattle.canonical.specs.declared.state.Extent.{Extent}
use Rattle.canonical.proofs.copy.CanonicalCopy.judge_packet.Given.{Over}
use Rattle.canonical.proofs.Takes.{not_opened, not_surveyed, full, done, may_take}
use Rattle.canonical.proofs.copy.CanonicalCopy.judge_packet.Goals as goal

-- the survey began where the copy reaches
from_here : (g : Over) (packet : Packet _) (x y : Extent) (answer : Result Extent Refusal)
    → answer ≡ surveyed (g.R.Registry.services packet.registry.now) x (packet_entries g.R.Registry.services packet 12) → x ≡ y
    → answer ≡ surveyed (g.R.Registry.services packet.registry.now) y (packet_entries g.R.Registry.services packet 12)
from_here g packet x y answer is same = is ∙ ap (λ (z : Extent). surveyed (g.R.Registry.services packet.registry.now) z (packet_entries g.R.Registry.services packet 12)) same

pub returns-in_err-packet-clause-answer : goal.returns-in_err-packet-clause-answer
returns-in_err-packet-clause-answer g c =
    let p = err_from_is_err_and c.from_residual.result c.from_residual.ensures.1 in
    rw (p.1, p.2) (not_opened g.R.Registry.services c.args.self.now c.args.bytes.now c.args.lent c.if-lent-state.false c.in_err-packet.field-0.0 c.in_err-packet.ensures.head)

pub returns-in_err-reached-clause-answer : goal.returns-in_err-reached-clause-answer
returns-in_err-reached-clause-answer g c =
    let p = err_from_is_err_and c.from_residual-in_err-reached.result c.from_residual-in_err-reached.ensures.1 in
    let o = c.in_ok-packet in
    rw (p.1, p.2) (not_surveyed g.R.Registry.services c.args.self.now c.args.bytes.now o.packet o.ensures.head o.ensures.of c.args.lent c.if-lent-state.false c.in_err-reached.field-0.0 (from_here g o.packet _ _ _ c.in_err-reached.ensures.is c.reach.ensures))

pub returns-then-not-fits-clause-answer : goal.returns-then-not-fits-clause-answer
returns-then-not-fits-clause-answer g c =
    let o = c.in_ok-packet in
    let full_up : leb (c.in_ok-reached.reached.length + 4) c.args.self.now.state.capacity ≡ false = let e = c.fits.ensures in let h = c.if-not-fits.true in cc in
    full g.R.Registry.services c.args.self.now c.args.bytes.now o.packet o.ensures.head o.ensures.of c.in_ok-reached.reached (from_here g o.packet _ _ _ c.in_ok-reached.ensures.is c.reach.ensures) c.args.lent c.if-lent-state.false full_up

pub returns-clause-answer : goal.returns-clause-answer
returns-clause-answer g c =
    let o = c.in_ok-packet in
    let fit : leb (c.in_ok-reached.reached.length + 4) c.args.self.now.state.capacity ≡ true = let e = c.fits.ensures in let h = c.if-not-fits.false in cc in
    done g.R.Registry.services c.args.self.now c.args.bytes.now o.packet o.ensures.head o.ensures.of c.in_ok-reached.reached (from_here g o.packet _ _ _ c.in_ok-reached.ensures.is c.reach.ensures) c.args.lent c.if-lent-state.false fit

pub returns-clause-packet : goal.returns-clause-packet
returns-clause-packet g c =
    let o = c.in_ok-packet in
    let fit : leb (c.in_ok-reached.reached.length + 4) c.args.self.now.state.capacity ≡ true = let e = c.fits.ensures in let h = c.if-not-fits.false in cc in
    may_take g.R.Registry.services c.args.self.now c.args.bytes.now o.packet o.ensures.head o.ensures.of c.in_ok-reached.reached (from_here g o.packet _ _ _ c.in_ok-reached.ensures.is c.reach.ensures) fit
