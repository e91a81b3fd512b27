-- What a noting makes of the rows, by the place of its key.
use Rattle.std.proofs.Common.{◌≡◌, ℕ, ◌+◌, ◌≤◌, ◌<◌, List, [], ◌++◌, length, get_or, set, take, drop, insert, Some, None, Ok, refl, sym, ◌∙◌, ap, arith, length-take}
use Rattle.std.proofs.lemmas.List.{take_at, drop_at, drop_more, get_or-take, set_split, length-take-le, drop-set-lt}
use Rattle.std.proofs.lemmas.List.Edits.{length-insert}
use Rattle.std.proofs.lemmas.Option.{slice_get_read}
use Rattle.std.proofs.Math.Numerals.{add-one}
use Rattle.std.proofs.Math.Seq.{take-set-lt}
use Rattle.losses.specs.Rows.{rows_in, taking, row_with, key_noted, noted, after_noting}
use Rattle.losses.specs.Places.{IsRowAt, IsGapAt}

-- what stands at the place is the row of the key
pub row_found : {R : Type 0} (key : R → ℕ) (k : ℕ) (rows : List R) (at : ℕ) (row : R) → at < length rows → row ≡ get_or rows at row
    → IsRowAt key rows k at → row_with key k rows ≡ Some row
row_found key k rows at row within read found = found.found ∙ slice_get_read rows (length rows) at row refl within read

module _ {R N : Type 0} (key : R → ℕ) (row : N → List N → R) (next : R → N → R) (rows : List R) (taken : ℕ) (n : N) (at : ℕ) where
  pub note_found : (old new : R) → at < length (take taken rows) → IsRowAt key (take taken rows) (key_noted key row n) at
      → old ≡ get_or rows at old → new ≡ next old n → after_noting key row next (rows_in rows taken) n ≡ Ok (rows_in (set rows at new) taken)
  note_found old new within found read becomes =
      let ts = take taken rows in
      let below_taken : at < taken = omega (arith, within, length-take taken rows) in
      let has : row_with key (key_noted key row n) ts ≡ Some old =
      row_found key (key_noted key row n) ts at old within (read ∙ sym (get_or-take taken rows at old below_taken)) found in
      let rows_noted : noted key row next ts n ≡ set ts at new = rw (found.before, has, found.after, ← becomes, set_split ts at new within, ← add-one at) in
      ap (λ o. taking (noted key row next ts n) o (drop taken rows)) has
      ∙ rw (rows_noted, take-set-lt taken rows at new below_taken, drop-set-lt taken rows at new below_taken)

  pub note_new : (new : R) (rows' : List R) → at ≤ length (take taken rows) → taken < length rows → IsGapAt key (take taken rows) (key_noted key row n) at
      → new ≡ row n [] → rows' ≡ insert (take taken rows) at new ++ drop (taken + 1) rows
      → after_noting key row next (rows_in rows taken) n ≡ Ok (rows_in rows' (taken + 1))
  note_new new rows' within room gap begins e =
      let ts = take taken rows in
      let long : length (insert ts at new) ≡ taken + 1 = length-insert ts at new within ∙ ap (λ m. m + 1) (length-take-le taken rows (omega arith)) in
      let rows_noted : noted key row next ts n ≡ insert ts at new = rw (gap.before, gap.none, gap.after, begins) in
      ap (λ o. taking (noted key row next ts n) o (drop taken rows)) gap.none
      ∙ ap (λ free. taking (noted key row next ts n) None free) (drop_more rows taken new room)
      ∙ rw (rows_noted, e, take_at (insert ts at new) (drop (taken + 1) rows) (taken + 1) long, drop_at (insert ts at new) (drop (taken + 1) rows) (taken + 1) long)
