-- The canonical encoding of an accepted entry: it stands in a packet as it is, and is its own canonical encoding. Assumes nothing.
use Rattle.std.proofs.Common.{◌≡◌, ℕ, ◌^◌, ◌<◌, ◌≤◌, true, List, length, is_ok, sym, refl, ap, subst, arith}
use Rattle.records.specs.Codes.{code_with}
use Rattle.records.specs.Services.{Services, Service, unserved, served, LawfulService, in_kind, checked_by, sense_by, canonical_flags_by, canonical_by}
use Rattle.records.specs.Verdicts.{Bytes, checked, sense_of, canonical_flags, canonical_data}
use Rattle.records.specs.declared.code.Code.{Code}
use Rattle.records.specs.declared.code.MessageType.{MessageType}
use Rattle.records.proofs.Served.{accepted_is}
use Rattle.tecmp.specs.Layout.{time_of, has_time}
use Rattle.tecmp.specs.Reading.{Entry}
use Rattle.tecmp.specs.Statements.{stated}
use Rattle.tecmp.specs.declared.head.Stream.{Stream}
use Rattle.copy_format.specs.Items.{item_of}
use Rattle.copy_format.proofs.PacketsRead.{Narrow, Fit}
use Rattle.copy_format.proofs.Written.{Sound}
use Rattle.canonical.specs.Law.{canonical_entry}
use Rattle.canonical.proofs.Accepted.{Accepted}

-- of a record that is accepted
pub record Encoded (v : Service) (f : ℕ) (d : List ℕ) : Type 0 where
  pub flags_fit : canonical_flags_by v f d < 2 ^ 16
  pub are_bytes : Bytes (canonical_by v f d)
  pub some : 0 < length (canonical_by v f d)
  pub bounded : length (canonical_by v f d) ≤ 1472
  pub passes : is_ok (checked_by v (canonical_flags_by v f d) (canonical_by v f d)) ≡ true
  pub same_flags : canonical_flags_by v (canonical_flags_by v f d) (canonical_by v f d) ≡ canonical_flags_by v f d
  pub same_sense : sense_by v (canonical_flags_by v f d) (canonical_by v f d) ≡ sense_by v f d
  pub same_bytes : canonical_by v (canonical_flags_by v f d) (canonical_by v f d) ≡ canonical_by v f d

pub encoded : (v : Service) → LawfulService v → (f : ℕ) (d : List ℕ) → f < 2 ^ 16 → Bytes d → is_ok (checked_by v f d) ≡ true → Encoded v f d
encoded unserved law f d lf bd e = cc
encoded (served shares verdict) law f d lf bd e =
    let c = law.canonical f d _ _ _ lf bd (accepted_is (verdict f d) e) in
    let l = c.as_long in
    record {
      flags_fit = c.flags_fit;
      are_bytes = c.bytes;
      some = let h = c.some in omega arith;
      bounded = let h = c.bounded in omega arith;
      passes = ap (λ w. is_ok (in_kind (checked w))) c.again;
      same_sense = ap sense_of c.again;
      same_flags = ap canonical_flags c.again;
      same_bytes = ap canonical_data c.again;
    }

module _ (services : Services) (law : (code : Code) → LawfulService (services code)) (stream : Stream) (e : Entry) (a : Accepted services stream e) where
  encoding : Encoded (services e.code) e.flags e.bytes
  encoding = encoded (services e.code) (law e.code) e.flags e.bytes a.flags_fit a.are_bytes a.passes

  own_time : (P : MessageType → Type 0) → P stream.message_type → P e.code.message_type
  own_time P p = subst P (sym a.of_stream) p

  sound : Sound (services e.code) e.code (item_of services e)
  sound =
      let c = encoding in
      record {
        own_type = refl;
        interface_fits = a.interface_fits;
        time_fits = a.time_fits;
        time_whole = own_time (λ type. time_of type e.time ≡ e.time) a.time_whole;
        timed = own_time (λ type. has_time type e.time ≡ true) a.timed;
        flags_fit = c.flags_fit;
        are_bytes = c.are_bytes;
        some = c.some;
        bounded = c.bounded;
        passes = c.passes;
      }

  pub fit : (narrow : Narrow stream.message_type stream.«module») → Fit services stream narrow (item_of services e)
  fit narrow =
      let own : e.code ≡ code_with stream.message_type e.code.data_type = ap (λ type. code_with type e.code.data_type) a.of_stream in
      (a.type_fits, subst (λ code. Sound (services code) code (item_of services e)) own sound)

  -- added again, it is accepted, and is the same item
  pub accepted_again : Accepted services stream (canonical_entry services e)
  accepted_again =
      let c = encoding in
      record {
        of_stream = a.of_stream;
        type_fits = a.type_fits;
        interface_fits = a.interface_fits;
        time_fits = a.time_fits;
        time_whole = a.time_whole;
        timed = a.timed;
        flags_fit = c.flags_fit;
        are_bytes = c.are_bytes;
        passes = c.passes;
      }

  pub item_again : item_of services (canonical_entry services e) ≡ item_of services e
  item_again = let c = encoding in let f = c.same_flags in let b = c.same_bytes in cc

  -- and it says the same
  pub says_again : stated services (canonical_entry services e) ≡ stated services e
  says_again = let c = encoding in let s = c.same_sense in cc
