-- What an entry says, however it is encoded.
use Rattle.std.specs.Prelude.{ℕ, List, ℤ}
use Rattle.records.specs.Services.{Services, sense_by}
use Rattle.records.specs.declared.code.Code.{Code}
use Rattle.tecmp.specs.Reading.{Entry}

-- code, interface, time and sense
pub record Statement : Type 0 where
  pub code : Code
  pub interface : ℕ
  pub time : ℕ
  pub sense : List ℤ

-- what its record says
abbrev pub sense_in : Services → Entry → List ℤ
sense_in services e = sense_by (services e.code) e.flags e.bytes

abbrev pub stated : Services → Entry → Statement
stated services e = record {
  code = e.code;
  interface = e.interface;
  time = e.time;
  sense = sense_in services e;
}
