use Rattle.std.proofs.Common.{◌<◌, length, ◌∙◌}
use Rattle.std.proofs.ByRecursion.{All-from_get_or}
use Rattle.records.proofs.Codecs.{accepted, encodes}
use Rattle.kind_analog.specs.Analog.{codec}
use Rattle.kind_analog.specs.Canonical.{sound, even}
use Rattle.kind_analog.specs.Factors.{canonical_fitting}
use Rattle.kind_analog.specs.Settings.{factor_number}
use Rattle.kind_analog.proofs.record.write_canonical.Goals as goal

-- as in `frames`: the lines name the codec of this kind, and a lemma over codecs would only pass them on
pub write-requires : goal.write-requires
write-requires c =
    let f = c.args.flags in
    let d = c.args.data.now in
    let a = accepted codec sound f d (length c.args.part.now) c.requires in
    let bytes = All-from_get_or (λ x. x < 256) d 0 (λ i _. (c.type_inv.data i).fits) in
    record {
      whole = even f d a.0;
      as_long = a.1;
      fitting = rw c.canonical_factor-factor.ensures (canonical_fitting (factor_number c.of_flags.result) d bytes);
    }

pub returns : goal.returns
returns c =
    let f = c.args.flags in
    let d = c.args.data.now in
    let a = accepted codec sound f d (length c.args.part.now) c.requires in
    let s = encodes codec sound f d a.0 in
    record {
      answer = c.with_factor.ensures ∙ rw (c.canonical_factor-factor.ensures, c.of_flags.ensures) s.0;
      part = c.write.ensures ∙ rw (c.canonical_factor-factor.ensures, c.of_flags.ensures) s.1;
    }
