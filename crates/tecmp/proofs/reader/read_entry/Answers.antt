use Rattle.std.proofs.Common.{None, ◌∙◌}
use Rattle.std.proofs.lemmas.Result.{err_from_is_err_and}
use Rattle.tecmp.specs.Reading.{inside_by}
use Rattle.tecmp.proofs.Walks.{by_packet, no_head}
use Rattle.tecmp.proofs.reader.read_entry.Goals as goal

pub returns : goal.returns
returns g c =
    let opened = c.in_ok-open in
    c.read.ensures
    ∙ by_packet g.R.Registry.services c.args.registry.now None c.args.packet.now (λ services head packet. inside_by (services head.code) head.shares head.code packet c.args.offset) opened.field-0 opened.ensures.head opened.ensures.of

pub returns-in_err-open : goal.returns-in_err-open
returns-in_err-open g c =
    let p = err_from_is_err_and c.from_residual.result c.from_residual.ensures.1 in
    rw (p.1, p.2) (no_head (g.R.Registry.services c.args.registry.now) None c.args.packet.now _ c.in_err-open.field-0.0 c.in_err-open.ensures.head)
