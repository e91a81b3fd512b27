use Rattle.std.proofs.Common.{Some, sym, ap, ◌∙◌, arith, w32, SFits}
use Rattle.std.proofs.lemmas.Int.{to_z-of_z}
use Rattle.std.proofs.lemmas.Option.{slice_get_past}
use Rattle.kind_analog.specs.Readings.{values_in}
use Rattle.kind_analog.proofs.samples.Samples.value.Goals as goal

pub returns-then-index-count : goal.returns-then-index-count
returns-then-index-count c = sym (slice_get_past (values_in c.args.self.now) c.args.index (omega arith))

pub returns : goal.returns
returns c =
    let fits : SFits w32 c.value_at.result = record { sfits = c.value_at.type_inv } in
    ap Some (to_z-of_z w32 _ fits) ∙ sym c.value_at.ensures
