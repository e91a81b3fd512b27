use Rattle.std.proofs.Common.{length, ap, ◌∙◌}
use lib.Bits.{bit_and}
use Rattle.records.proofs.Codecs.{accepted, encodes}
use Rattle.frames.specs.Frames.{codec, flags_read, framed_on, bytes_of}
use Rattle.frames.specs.Law.{sound, size}
use Rattle.frames.proofs.record.write_canonical.Goals as goal

-- as in `kind_analog`: the lines name the codec of this kind, and a lemma over codecs would only pass them on
pub write_read-requires : goal.write_read-requires
write_read-requires g c =
    let s = g.F.Frame.shape c.args.frame.now in
    let ok = g.met.F.Frame.shapely c.args.frame.now in
    let f = c.args.flags in
    let d = c.args.data.now in
    let a = accepted (codec s) (sound s ok) f d (length c.args.part.now) c.requires in
    (size s ok (flags_read s f) d a.0, a.1)

pub returns : goal.returns
returns g c =
    let s = g.F.Frame.shape c.args.frame.now in
    let ok = g.met.F.Frame.shapely c.args.frame.now in
    let f = c.args.flags in
    let d = c.args.data.now in
    let a = accepted (codec s) (sound s ok) f d (length c.args.part.now) c.requires in
    let e = encodes (codec s) (sound s ok) f d a.0 in
    record {
      answer = ap (bit_and f) c.mask.ensures ∙ e.0;
      part = c.write_read.ensures ∙ ap (λ m. bytes_of s (framed_on s (bit_and f m) d)) c.mask.ensures ∙ e.1;
    }
