-- A table as its rows.
use Rattle.losses.specs.declared.table.Table.{Table}
use Rattle.losses.specs.Rows.{Rows, rows_in}

abbrev pub rows_of : {R : Type 0} → Table R → Rows R
rows_of t = rows_in t.rows.now t.taken
