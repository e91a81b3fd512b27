use Rattle.std.proofs.Common.{arith}
use Rattle.losses.proofs.Halving.{between_all, between_none, narrow_up, narrow_down}
use Rattle.losses.proofs.row.search.Goals as goal

pub loop-low-init : goal.loop-low-init
loop-low-init g c = record {
  ordered = omega arith;
  within = omega arith;
  between = λ sorted. between_all g.R.Row.key_of c.args.rows.now c.args.key;
}

pub loop-low-preserved-then-key : goal.loop-low-preserved-then-key
loop-low-preserved-then-key g c = record {
  ordered = omega arith;
  within = omega arith;
  between = λ sorted. narrow_up g.R.Row.key_of c.args.rows.now c.args.key c.loop-low.low c.loop-low.high _ c.index-rows-middle.result (omega arith) c.index-rows-middle.is sorted (c.loop-low.invariant.between sorted) (omega arith);
}

pub loop-low-preserved : goal.loop-low-preserved
loop-low-preserved g c = record {
  ordered = omega arith;
  within = omega arith;
  between = λ sorted. narrow_down g.R.Row.key_of c.args.rows.now c.args.key c.loop-low.low c.loop-low.high _ c.index-rows-middle.result (omega arith) c.index-rows-middle.is sorted (c.loop-low.invariant.between sorted) (omega arith);
}

pub returns-clause-first : goal.returns-clause-first
returns-clause-first g c = λ sorted. between_none g.R.Row.key_of c.args.rows.now c.args.key c.loop-low.low c.loop-low.high (omega arith) (c.loop-low.invariant.between sorted)
