use Rattle.std.proofs.Common.{Ok, ap, ◌∙◌}
use Rattle.canonical.specs.Calls.{Closes}
use Rattle.canonical.specs.States.{spliced}
use Rattle.canonical.proofs.Beyond.{keeps_beyond}
use Rattle.canonical.proofs.Laws.{lawful}
use Rattle.canonical.proofs.copy.CanonicalCopy.close.Goals as goal

pub returns-clause-closes : goal.returns-clause-closes
returns-clause-closes g c =
    let s = c.args.self.state in
    let out = c.args.out.now in
    let done : Closes s out (Ok c.in-Ok.closed) c.put.new.out =
    (c.in-Ok.ensures, c.put.ensures ∙ ap (spliced out s.extent.length) c.word.ensures) in
    (done, lawful (g.R.Registry.services c.args.self.registry.now) (g.met.R.Registry.lawful c.args.self.registry.now) s out c.in-Ok.closed c.put.new.out done)

pub returns-clause-beyond : goal.returns-clause-beyond
returns-clause-beyond g c = keeps_beyond (g.R.Registry.services c.args.self.registry.now)

pub returns-in-Err-clause-beyond : goal.returns-in-Err-clause-beyond
returns-in-Err-clause-beyond g c = keeps_beyond (g.R.Registry.services c.args.self.registry.now)
