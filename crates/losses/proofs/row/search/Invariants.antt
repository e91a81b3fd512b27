use Rattle.std.proofs.Common.{◌-◌, ◌≤◌, length}
use Rattle.losses.specs.Order.{InOrder}
use Rattle.losses.proofs.Halving.{IsBetween}
use Rattle.losses.proofs.row.search.Given as goal

abbrev pub invariant-loop-low : goal.invariant-loop-low
invariant-loop-low g l = record {
  ordered : l.low ≤ l.high;
  within : l.high ≤ length l.rows;
  between : InOrder g.R.Row.key_of l.rows → IsBetween g.R.Row.key_of l.rows l.key l.low l.high;
}

abbrev pub decreases-loop-low : goal.decreases-loop-low
decreases-loop-low g l = l.high - l.low
