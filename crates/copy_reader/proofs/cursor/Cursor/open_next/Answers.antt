use Rattle.std.proofs.Common.{◌≡◌, ◌+◌, length, sym, ap, ◌∙◌, arith}
use Rattle.std.proofs.lemmas.Result.{IfOk-at_ok}
use Rattle.tecmp.specs.Packets.{head_in}
use Rattle.copy_format.specs.Image.{filling}
use Rattle.copy_reader.proofs.Turning.{was_ok, was_err, opens, not_refused}
use Rattle.copy_reader.proofs.cursor.Cursor.open_next.Goals as goal

pub returns-in_err-packet : goal.returns-in_err-packet
returns-in_err-packet g c =
    let shown = c.in_ok-bytes.ensures in
    let refused = was_err c.open.result (sym c.in_err-packet.was ∙ c.ok.ensures.value) in
    absurd (not_refused g.R.Registry.services c.args.self c.requires.sound c.requires.at_end c.in_ok-bytes.bytes.now shown.0 shown.1 refused.0 (ap head_in (sym refused.1) ∙ c.open.ensures.head))

pub returns : goal.returns
returns g c =
    let shown = c.in_ok-bytes.ensures in
    let packet = c.in_ok-packet.packet in
    let at = c.args.self.next in
    let size = length c.in_ok-bytes.bytes.now in
    let was = was_ok c.open.result packet (sym c.in_ok-packet.was ∙ c.ok.ensures.value) in
    let next : at + 4 + (size + filling size) ≡ at + 4 + size + c.filling_of.result = let f = c.filling_of.ensures in omega arith in
    opens g.R.Registry.services c.args.self c.requires.sound c.requires.at_end c.in_ok-bytes.bytes.now shown.0 shown.1 packet (ap head_in (sym was) ∙ c.open.ensures.head) (IfOk-at_ok _ was c.open.ensures.of) _ next
