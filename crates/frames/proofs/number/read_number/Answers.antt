use Rattle.std.proofs.Common.{◌≡◌, ◌-◌, length, replicate, ap, ◌∙◌, arith}
use borrow.Rule.Slice.PartMut.{put_mid}
use Rattle.frames.proofs.Wide.{sum8, read_whole}
use Rattle.frames.proofs.number.read_number.Goals as goal

pub returns : goal.returns
returns c =
    let n = length c.args.bytes.now in
    let sum : c.from_be_bytes.result ≡ sum8 (put_mid (8 - n) (8 - (8 - n)) (replicate 8 0) c.copy_from_slice.new.self) = c.from_be_bytes.ensures in
    sum ∙ ap (λ bs. sum8 (put_mid (8 - n) (8 - (8 - n)) (replicate 8 0) bs)) c.copy_from_slice.ensures.after ∙ read_whole c.args.bytes.now (omega arith)
