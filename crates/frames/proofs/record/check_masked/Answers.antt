use Rattle.std.proofs.lemmas.Result.{err_from_is_err_and}
use Rattle.frames.proofs.Checked.{checks_passed, checks_refused}
use Rattle.frames.proofs.record.check_masked.Goals as goal

pub returns-in_err-check_read : goal.returns-in_err-check_read
returns-in_err-check_read g c =
    let k = c.args.frame.now in
    let p = err_from_is_err_and c.from_residual-in_err-check_read.result c.from_residual-in_err-check_read.ensures.1 in
    rw (p.1, p.2) (checks_refused (g.F.Frame.shape k) (g.met.F.Frame.shapely k) c.args.flags c.args.data.now c.in_ok-count.count c.in_ok-count.ensures c.in_err-check_read.field-0.0 c.in_err-check_read.ensures)

pub returns : goal.returns
returns g c =
    let k = c.args.frame.now in
    checks_passed (g.F.Frame.shape k) (g.met.F.Frame.shapely k) c.args.flags c.args.data.now c.in_ok-count.count c.in_ok-count.ensures c.in_ok-check_read.ensures
