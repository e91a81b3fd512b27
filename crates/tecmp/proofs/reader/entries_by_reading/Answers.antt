use Rattle.tecmp.proofs.Walks.{by_reading}
use Rattle.tecmp.proofs.reader.entries_by_reading.Goals as goal

pub returns : goal.returns
returns c = by_reading
