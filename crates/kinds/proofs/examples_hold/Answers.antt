-- each example is computed
use Rattle.std.proofs.Common.{refl}
use lib.Count.{ones}
use Rattle.copy_format.specs.Image.{entry_head, packet_head, packet_bytes, word, framed}
use Rattle.kinds.proofs.examples_hold.Goals as goal

pub returns : goal.returns
unfolding ones entry_head packet_head packet_bytes word framed
returns c = (
  (refl, refl, refl, refl, refl, refl, refl),
  (refl, refl, refl, refl, refl, refl, refl),
  (refl, refl),
  (refl, refl, refl),
  (refl, refl, refl, refl, refl, refl, refl),
  (refl, refl),
  (refl, refl),
)
