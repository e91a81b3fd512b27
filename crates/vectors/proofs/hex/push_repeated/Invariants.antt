use Rattle.std.proofs.Common.{◌≤◌, vec_len}
use Rattle.vectors.proofs.hex.push_repeated.Given as goal

-- the piece that is repeated stays there
abbrev pub invariant-loop : goal.invariant-loop
invariant-loop l = l.end ≤ vec_len l.bytes
