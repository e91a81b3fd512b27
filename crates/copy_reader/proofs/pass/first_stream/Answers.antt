use Rattle.std.proofs.Common.{Ok, subst}
use Rattle.std.proofs.lemmas.Result.{err_from_is_err_and}
use Rattle.copy_format.specs.ReadingBack.{part_of}
use Rattle.copy_reader.specs.Parts.{Shows}
use Rattle.copy_reader.proofs.Streams.{first_refused}
use Rattle.copy_reader.proofs.pass.first_stream.Goals as goal

pub returns-in_err-open-in-Packet : goal.returns-in_err-open-in-Packet
returns-in_err-open-in-Packet g c =
    let p = err_from_is_err_and c.from_residual-in_err-open-in-Packet.result c.from_residual-in_err-open-in-Packet.ensures.1 in
    let s = c.args.copy.now in
    let shown = subst (λ part. Shows (part_of s) s (Ok part)) c.in-Packet.is c.in_ok-bytes.ensures in
    rw (p.1, p.2) (first_refused (g.R.Registry.services c.args.registry.now) s c.in-Packet.bytes.now shown.0 shown.1 c.in_err-open-in-Packet.field-0.0 c.in_err-open-in-Packet.ensures.head)
