-- How far a copy would reach with the entries of a packet.
use Rattle.std.specs.Prelude.{Ok, Err, Result}
use Rattle.records.specs.Services.{Services}
use Rattle.records.specs.declared.refusal.Refusal.{Refusal}
use Rattle.tecmp.specs.Entries.{Entries}
use Rattle.canonical.specs.declared.state.Extent.{Extent}
use Rattle.canonical.specs.States.{after_all}

abbrev pub surveyed : Services → Extent → Entries → Result Extent Refusal
surveyed services x (Ok es) = Ok (after_all services x es)
surveyed services x (Err refusal) = Err refusal
