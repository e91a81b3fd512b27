use Rattle.std.proofs.Common.{arith, ap, sym, ◌∙◌}
use Rattle.std.proofs.lemmas.List.{get_or_default}
use Rattle.losses.proofs.Places.{row_at, gap_at, ascending_in_order}
use Rattle.losses.proofs.table.place.Goals as goal
use Rattle.losses.proofs.table.place.Goals.{else-at-rows-via-then-at-rows+else-key, else-at-rows-via-else-at-rows}

pub returns-then-key : goal.returns-then-key
returns-then-key g c = (
  c.if-at-rows.true,
  λ sorted.
      row_at g.R.Row.key_of c.args.key c.args.rows.now c.search-at.result sorted (c.search-at.ensures.first (ascending_in_order g.R.Row.key_of c.args.rows.now sorted))
      c.index-rows-at.result c.if-at-rows.true c.index-rows-at.is (sym c.key.ensures ∙ c.if-key.true),
)

pub returns-else-at-rows : goal.returns-else-at-rows
returns-else-at-rows g c = (
  c.search-at.ensures.within,
  λ sorted.
      gap_at g.R.Row.key_of c.args.key c.args.rows.now c.search-at.result sorted (c.search-at.ensures.first (ascending_in_order g.R.Row.key_of c.args.rows.now sorted))
      (λ d within same. elim c.else-at-rows.branch [
        | else-at-rows-via-then-at-rows+else-key w ↦
            w.if-key.false (w.key.ensures ∙ ap g.R.Row.key_of (w.index-rows-at.is ∙ get_or_default c.args.rows.now c.search-at.result w.index-rows-at.result d within) ∙ same)
        | else-at-rows-via-else-at-rows w ↦ omega (arith, within, w.if-at-rows.false)
      ]),
)
