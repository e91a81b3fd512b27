use Rattle.std.proofs.Common.{◌≡◌, true, ◌&&◌, leb, length, sym, ap, ◌∙◌, arith}
use Rattle.std.proofs.lemmas.Bool.{cond-true}
use Rattle.std.proofs.lemmas.Bool.Decides.{nat_tests}
use Rattle.std.proofs.lemmas.List.{take_rest}
use Rattle.tecmp.specs.Reading.{of_rest_by}
use Rattle.tecmp.proofs.packet.Packet.read.Goals as goal

pub returns : goal.returns
returns g c =
    let packet = c.args.self.now.bytes.now in
    let offset = c.args.offset in
    let code = c.args.self.now.head.code in
    let service = g.R.Registry.services c.args.self.now.registry.now code in
    let within : (leb 12 offset && leb offset (length packet)) ≡ true = grind (arith, nat_tests) in
    c.read_rest.ensures ∙ ap (of_rest_by service c.args.self.now.head.shares code (length packet) offset) (take_rest packet offset) ∙ sym (cond-true _ _ _ within)
