use Rattle.std.proofs.Common.{◌-◌, length, take, drop, ap, ◌∙◌, arith}
use Rattle.frames.proofs.Wide.{write_whole}
use Rattle.frames.proofs.number.write_number.Goals as goal

pub returns : goal.returns
returns c =
    let n = length c.args.part.now in
    c.copy_from_slice.ensures.after ∙ ap (λ bs. take (8 - (8 - n)) (drop (8 - n) bs)) c.to_be_bytes-whole.ensures ∙ write_whole n c.args.number (omega arith)
