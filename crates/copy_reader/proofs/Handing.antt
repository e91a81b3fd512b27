-- Handing out the entries of a copy that has passed. Assumes nothing.
use Rattle.std.proofs.Common.{◌≡◌, ℕ, ◌+◌, ◌<◌, true, ◌∷◌, map, length, is_ok, Some, Ok, Err, sym, refl, ap, ◌∙◌, arith}
use Rattle.records.specs.Services.{Services}
use Rattle.tecmp.specs.Entries.{Entries, before}
use Rattle.tecmp.specs.Packets.{read_in, packet_entries}
use Rattle.tecmp.specs.Reading.{Entry, Found}
use Rattle.tecmp.specs.Views.{viewed}
use Rattle.tecmp.specs.declared.entry.EntryView.{EntryView}
use Rattle.tecmp.proofs.Walks.{entered, further}
use Rattle.copy_format.specs.ReadingBack.{entry_moved}
use Rattle.copy_reader.specs.Cursors.{listed, entries_left}
use Rattle.copy_reader.specs.declared.cursor.Place.{Place}

pub before_ok : (e : Entry) (r : Entries) → is_ok (before e r) ≡ true → (is_ok r ≡ true) × (listed (before e r) ≡ e ∷ listed r)
before_ok e (Ok es) h = (refl, refl)
before_ok e (Err w) h = absurd cc

-- what is known of a packet's entry
pub record Taken {R : Type 0} (services : R → Services) (place : Place R) (v : EntryView) (next : ℕ) : Type 0 where
  pub inside : v.data_offset < length place.packet.bytes.now
  pub left : entries_left services place ≡ entry_moved place.base (viewed v) ∷ entries_left services (record { packet = place.packet; base = place.base; offset = next })
  pub passed : is_ok (packet_entries services place.packet next) ≡ true

pub taken : {R : Type 0} (services : R → Services) (place : Place R) (v : EntryView) (next : ℕ)
    → read_in services place.packet place.offset ≡ Ok (Some (record { entry = viewed v; next = next })) → is_ok (packet_entries services place.packet place.offset) ≡ true → Taken services place v next
taken services place v next e ok =
    let packet = place.packet in
    let service = services packet.registry.now packet.head.code in
    let f : Found = record { entry = viewed v; next = next } in
    let i = entered service packet.head.shares packet.head.code packet.bytes.now place.offset f e in
    let step = further service packet.head.shares packet.head.code packet.bytes.now place.offset f e in
    let b = before_ok (viewed v) (packet_entries services packet next) (ap is_ok (sym step) ∙ ok) in
    let from : v.data_offset ≡ place.offset + 16 = ap (λ (g : Found). g.entry.from) i.is in
    record {
      inside = omega (arith, i.ahead, i.within, from);
      left = ap (λ es. map (entry_moved place.base) (listed es)) step ∙ ap (map (entry_moved place.base)) b.1;
      passed = b.0;
    }
