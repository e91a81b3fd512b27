-- What a bus row says: the entries noted of the interface alone tell it.
use Rattle.std.specs.Prelude.{◌+◌, List, ◌∷◌, length, sum_by}
use Rattle.losses.specs.Totals.{total}
use Rattle.losses.specs.declared.bus_row.BusRow.{BusRow}
use Rattle.losses.specs.declared.bus_row.EntryNoted.{EntryNoted}

abbrev pub bus_row : EntryNoted → List EntryNoted → BusRow
bus_row e es = record {
  interface = e.interface;
  entries = total (length (e ∷ es));
  data_bytes = total (sum_by (λ x. x.data_bytes) (e ∷ es));
}

-- any row after one more entry
abbrev pub after_entry : BusRow → EntryNoted → BusRow
after_entry r e = record {
  interface = r.interface;
  entries = total (r.entries + 1);
  data_bytes = total (r.data_bytes + e.data_bytes);
}
