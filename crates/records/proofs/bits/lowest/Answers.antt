use Rattle.std.proofs.Common.{◌≡◌, ◌*◌, ◌%◌, ◌^◌, ◌<◌, sym, mod-eq_of_lt, arith}
use Rattle.std.proofs.lemmas.Nat.{and_mask, one_shl}
use Rattle.records.proofs.Fields.{below}
use Rattle.records.proofs.bits.lowest.Goals as goal

pub returns-then-width-lt-BITS : goal.returns-then-width-lt-BITS
returns-then-width-lt-BITS c =
    let h : c.args.width < 16 = omega arith in
    let e : (1 * 2 ^ c.args.width) % 65536 ≡ 2 ^ c.args.width = one_shl c.args.width 16 h in
    rw e (and_mask c.args.word c.args.width)

pub returns-else-width-lt-BITS : goal.returns-else-width-lt-BITS
returns-else-width-lt-BITS c = sym (mod-eq_of_lt (below c.args.word c.args.width (omega arith) (omega arith)))
