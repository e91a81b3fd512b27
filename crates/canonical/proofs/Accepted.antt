-- What is known of an entry that a copy accepts, and what the kinds' law then says of the packets. Assumes nothing.
use Rattle.std.proofs.Common.{◌≡◌, ◌+◌, ◌^◌, ◌<◌, ◌≤◌, Bool, true, List, [], ◌∷◌, ◌++◌, map, is_ok, sym, ap, arith}
use Rattle.std.specs.List.{AllByRecursion}
use Rattle.std.proofs.ByRecursion.{All-map, All-weaker}
use Rattle.std.proofs.lemmas.List.{map_push}
use Rattle.records.specs.Services.{Services, LawfulService, checked_by, shares_in}
use Rattle.records.specs.Codes.{code_with}
use Rattle.records.specs.Verdicts.{Bytes}
use Rattle.records.specs.declared.code.Code.{Code}
use Rattle.records.proofs.Served.{canonical_by_lem}
use Rattle.tecmp.specs.Layout.{time_of, has_time}
use Rattle.tecmp.specs.Reading.{Entry}
use Rattle.tecmp.specs.declared.head.Stream.{Stream}
use Rattle.copy_format.specs.Cutting.{cut, Passes}
use Rattle.copy_format.specs.Image.{packet_limit, packets_of}
use Rattle.copy_format.specs.Items.{Item, item_of, size, allowed, sharing}
use Rattle.copy_format.proofs.Cuts.{passes_cut}
use Rattle.copy_format.proofs.Packets.{alone}

pub record Accepted (services : Services) (stream : Stream) (e : Entry) : Type 0 where
  pub of_stream : e.code.message_type ≡ stream.message_type
  pub type_fits : e.code.data_type < 2 ^ 16
  pub interface_fits : e.interface < 2 ^ 32
  pub time_fits : e.time < 2 ^ 64
  pub time_whole : time_of stream.message_type e.time ≡ e.time
  pub timed : has_time stream.message_type e.time ≡ true
  pub flags_fit : e.flags < 2 ^ 16
  pub are_bytes : Bytes e.bytes
  pub passes : is_ok (checked_by (services e.code) e.flags e.bytes) ≡ true

module _ (services : Services) (stream : Stream) where
  abbrev pub may_stand : List Item → Bool
  may_stand = allowed (sharing services stream.message_type) packet_limit

  pub shares_as : (e : Entry) → Accepted services stream e → sharing services stream.message_type e.code.data_type ≡ shares_in (services e.code)
  shares_as e a = ap (λ t. shares_in (services (code_with t e.code.data_type))) (sym a.of_stream)

  pub packets_more : (es : List Entry) (e : Entry) → packets_of services stream (es ++ e ∷ []) ≡ cut may_stand (map (item_of services) es ++ item_of services e ∷ [])
  packets_more es e = ap (cut may_stand) (map_push (item_of services) es e)

  module _ (law : (code : Code) → LawfulService (services code)) where
    pub small : (e : Entry) → Accepted services stream e → 12 + size (item_of services e) ≤ packet_limit
    small e a =
        let c = canonical_by_lem (services e.code) (law e.code) e.flags e.bytes a.flags_fit a.are_bytes a.passes in
        omega (arith, c.0, c.1)

    -- every packet passes
    pub packets_pass : (es : List Entry) → AllByRecursion (Accepted services stream) es → AllByRecursion (Passes may_stand) (packets_of services stream es)
    packets_pass es h =
        passes_cut may_stand (map (item_of services) es)
        (All-map (λ i. may_stand (i ∷ []) ≡ true) (item_of services) es
        (All-weaker (Accepted services stream) (λ e. may_stand (item_of services e ∷ []) ≡ true) (λ e a. alone (sharing services stream.message_type) packet_limit (item_of services e) (small e a)) es h))
