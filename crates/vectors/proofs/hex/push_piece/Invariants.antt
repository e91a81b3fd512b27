use Rattle.std.proofs.Common.{◌≤◌, vec_len}
use Rattle.vectors.proofs.hex.push_piece.Given as goal

-- nothing is taken away
abbrev pub invariant-loop-pair : goal.invariant-loop-pair
invariant-loop-pair l = vec_len l.fn.bytes ≤ vec_len l.bytes
