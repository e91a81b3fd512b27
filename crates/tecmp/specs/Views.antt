-- What the code's views say.
use Rattle.std.specs.Prelude.{Some, None, Ok, Err, Option, Result}
use Rattle.tecmp.specs.declared.entry.EntryView.{EntryView}
use Rattle.tecmp.specs.declared.entry.EntryRead.{EntryRead}
use Rattle.records.specs.declared.refusal.Refusal.{Refusal}
use Rattle.tecmp.specs.Reading.{Entry, Found, Answer}

abbrev pub viewed : EntryView → Entry
viewed v = record {
  code = v.code;
  interface = v.interface;
  time = v.time;
  flags = v.flags;
  bytes = v.«data».now;
  from = v.data_offset;
}

abbrev pub read_as : EntryRead → Found
read_as r = record { entry = viewed r.entry; next = r.next }

abbrev pub found : Option EntryRead → Option Found
found None = None
found (Some r) = Some (read_as r)

-- what `read_entry` answers
abbrev pub answered : Result (Option EntryRead) Refusal → Answer
answered (Ok r) = Ok (found r)
answered (Err refusal) = Err refusal
