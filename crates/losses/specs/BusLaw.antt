-- A bus row goes on as its entries tell.
use Rattle.std.specs.Prelude.{◌≡◌, ℕ, ◌+◌, List, [], ◌∷◌, ◌++◌, length, sum_by, refl}
use Rattle.std.proofs.Common.{arith, length-append, ap, ◌∙◌}
use Rattle.std.proofs.lemmas.List.Sums.{sum_by-append}
use Rattle.losses.specs.declared.bus_row.EntryNoted.{EntryNoted}
use Rattle.losses.specs.Rows.{GoesOn}
use Rattle.losses.specs.Totals.{total, total-total}
use Rattle.losses.specs.Buses.{bus_row, after_entry}

bus_one_more : (e : EntryNoted) (es : List EntryNoted) (x : EntryNoted) → after_entry (bus_row e es) x ≡ bus_row e (es ++ x ∷ [])
bus_one_more e es x =
    let bytes : List EntryNoted → ℕ = sum_by (λ y. y.data_bytes) in
    let entries : total (total (length (e ∷ es)) + 1) ≡ total (length (e ∷ es ++ x ∷ [])) =
    total-total (length (e ∷ es)) 1 ∙ ap total (omega (arith, length-append es (x ∷ []))) in
    let appended : bytes (e ∷ es ++ x ∷ []) ≡ bytes (e ∷ es) + (0 + x.data_bytes) = sum_by-append (λ y. y.data_bytes) (e ∷ es) (x ∷ []) in
    let data_bytes : total (total (bytes (e ∷ es)) + x.data_bytes) ≡ total (bytes (e ∷ es ++ x ∷ [])) =
    total-total (bytes (e ∷ es)) x.data_bytes ∙ ap total (omega (arith, appended)) in
    rw (entries, data_bytes)

pub bus_goes_on : GoesOn (λ r. r.interface) bus_row after_entry
bus_goes_on = record { same_key = λ r n. refl; one_more = bus_one_more }
