use Rattle.std.proofs.Common.{Err, ap, ◌∙◌, arith}
use Rattle.copy_reader.proofs.Passes.{count_at, refusal_at}
use Rattle.copy_reader.proofs.pass.count_entries_at.Goals as goal

pub moved-requires : goal.moved-requires
moved-requires g c =
    let refused = refusal_at (g.R.Registry.services c.args.registry.now) c.args.stream c.args.base c.args.bytes.now c.in-Err.refusal c.in-Err.ensures in
    omega (arith, refused.0)

pub returns-in-Err-clause-is : goal.returns-in-Err-clause-is
returns-in-Err-clause-is g c =
    ap Err c.moved.ensures ∙ (refusal_at (g.R.Registry.services c.args.registry.now) c.args.stream c.args.base c.args.bytes.now c.in-Err.refusal c.in-Err.ensures).1

pub returns-in-Ok : goal.returns-in-Ok
returns-in-Ok g c =
    let counted = count_at (g.R.Registry.services c.args.registry.now) c.args.stream c.args.base c.args.bytes.now c.in-Ok.count c.in-Ok.ensures in
    record { is = counted.0; few = counted.1 }
