use Rattle.std.proofs.Common.{length, Ok, sym, refl, ap, ◌∙◌, arith}
use Rattle.std.proofs.lemmas.Result.{err_from_is_err_and}
use Rattle.records.specs.Codecs.{verdict_of}
use Rattle.kind_analog.specs.Analog.{codec}
use Rattle.records.proofs.Written.{written_refused, written_short, written_all}
use Rattle.kind_analog.proofs.record.write_analog.Goals as goal

-- the search finds these four by itself, in ten seconds
pub returns-in_err-check_analog : goal.returns-in_err-check_analog
returns-in_err-check_analog c =
    let v = verdict_of codec c.args.flags c.args.data.now in
    let p = err_from_is_err_and c.from_residual.result c.from_residual.ensures.1 in
    rw (p.1, p.2) (record { answer = written_refused v _ (length c.args.part.now) c.in_err-check_analog.ensures; part = refl })

pub returns-then-branch-part : goal.returns-then-branch-part
returns-then-branch-part c =
    let v = verdict_of codec c.args.flags c.args.data.now in
    record { answer = written_short v _ (length c.args.part.now) c.in_ok-check_analog.ensures (λ q. omega arith); part = refl }

pub write_canonical-requires : goal.write_canonical-requires
write_canonical-requires c = sym c.in_ok-check_analog.ensures ∙ ap Ok (omega arith)

pub returns : goal.returns
returns c =
    let v = verdict_of codec c.args.flags c.args.data.now in
    record {
      answer = ap Ok c.write_canonical.ensures.answer ∙ written_all v _ (length c.args.part.now) c.in_ok-check_analog.ensures (omega arith);
      part = c.write_canonical.ensures.part;
    }
