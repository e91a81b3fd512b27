use Rattle.std.proofs.Common.{◌≡◌, ◌+◌, length, sym, ap, ◌∙◌, arith}
use Rattle.std.proofs.lemmas.Result.{err_from_is_err_and}
use Rattle.copy_format.specs.Image.{filling}
use Rattle.copy_format.specs.ReadingBack.{packets_from}
use Rattle.copy_reader.specs.Passing.{tried}
use Rattle.copy_reader.proofs.Passes.{malformed_here, closing_here, after_within, passed_on, refused_here}
use Rattle.copy_reader.proofs.Shown.{packet_shown, closing_shown, malformed_shown}
use Rattle.copy_reader.proofs.pass.test_words.Goals as goal

pub returns-in_err-bytes : goal.returns-in_err-bytes
returns-in_err-bytes g c =
    let p = err_from_is_err_and c.from_residual.result c.from_residual.ensures.1 in
    let m = malformed_shown c.args.copy.now c.loop-bytes.offset c.in_err-bytes.field-0.0 c.in_err-bytes.ensures in
    rw (p.1, p.2, m.1) (malformed_here (g.R.Registry.services c.args.registry.now) c.args.stream c.args.copy.now c.loop-bytes.offset c.loop-bytes.count m.0 ∙ sym c.loop-bytes.invariant.same)

pub returns-in_err-count-in-Packet : goal.returns-in_err-count-in-Packet
returns-in_err-count-in-Packet g c =
    let p = err_from_is_err_and c.from_residual-in_err-count-in-Packet.result c.from_residual-in_err-count-in-Packet.ensures.1 in
    let shown = packet_shown c.args.copy.now c.loop-bytes.offset c.in_ok-bytes.field-0 c.in-Packet.bytes c.in_ok-bytes.ensures c.in-Packet.is in
    rw (p.1, p.2)
    (refused_here (g.R.Registry.services c.args.registry.now) c.args.stream c.args.copy.now c.loop-bytes.offset c.loop-bytes.count c.in-Packet.bytes.now shown.0 shown.1 c.in_err-count-in-Packet.field-0.0 c.in_err-count-in-Packet.ensures.is
    ∙ sym c.loop-bytes.invariant.same)

pub loop-bytes-preserved : goal.loop-bytes-preserved
loop-bytes-preserved g c =
    let services = g.R.Registry.services c.args.registry.now in
    let stream = c.args.stream in
    let s = c.args.copy.now in
    let at = c.loop-bytes.offset in
    let count = c.loop-bytes.count in
    let bytes = c.in-Packet.bytes.now in
    let n = c.in_ok-count-in-Packet.field-0 in
    let shown = packet_shown s at c.in_ok-bytes.field-0 c.in-Packet.bytes c.in_ok-bytes.ensures c.in-Packet.is in
    let e : at + 4 + (length bytes + filling (length bytes)) ≡ at + 4 + length bytes + c.filling_of.result = let f = c.filling_of.ensures in omega arith in
    let w = after_within services stream s at count bytes shown.0 shown.1 c.loop-bytes.invariant.within in
    record {
      within = omega (arith, w, e);
      few = omega (arith, c.in_ok-count-in-Packet.ensures.few);
      same = c.loop-bytes.invariant.same
          ∙ passed_on services stream s at count bytes shown.0 shown.1 n c.in_ok-count-in-Packet.ensures.is
          ∙ ap (λ k. tried (packets_from services stream s k (count + n))) e;
    }

pub returns-in-Closing : goal.returns-in-Closing
returns-in-Closing g c =
    let shown = closing_shown c.args.copy.now c.loop-bytes.offset c.in_ok-bytes.field-0 c.in-Closing.total c.in_ok-bytes.ensures c.in-Closing.is in
    c.test_end.ensures
    ∙ closing_here (g.R.Registry.services c.args.registry.now) c.args.stream c.args.copy.now c.loop-bytes.offset c.loop-bytes.count c.in-Closing.total shown
    ∙ sym c.loop-bytes.invariant.same
