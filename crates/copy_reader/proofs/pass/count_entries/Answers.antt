use Rattle.std.proofs.Common.{Some, ap, ◌∙◌}
use Rattle.std.proofs.lemmas.Result.{err_from_is_err_and}
use Rattle.tecmp.specs.Entries.{entries_by, counted}
use Rattle.tecmp.proofs.Walks.{by_packet, no_head}
use Rattle.copy_reader.proofs.pass.count_entries.Goals as goal

pub returns : goal.returns
returns g c =
    let opened = c.in_ok-open in
    c.count.ensures
    ∙ ap (counted 0) (by_packet g.R.Registry.services c.args.registry.now (Some c.args.stream) c.args.bytes.now (λ services head packet. entries_by (services head.code) head.shares head.code packet 12) opened.field-0 opened.ensures.head opened.ensures.of)

pub returns-in_err-open : goal.returns-in_err-open
returns-in_err-open g c =
    let p = err_from_is_err_and c.from_residual.result c.from_residual.ensures.1 in
    rw (p.1, p.2) (ap (counted 0) (no_head (g.R.Registry.services c.args.registry.now) (Some c.args.stream) c.args.bytes.now _ c.in_err-open.field-0.0 c.in_err-open.ensures.head))
