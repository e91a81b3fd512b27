-- Testing a packet: opened, looked over, and the room for what it holds. Assumes nothing.
use Rattle.std.proofs.Common.{◌≡◌, ℕ, ◌+◌, ◌≤◌, true, false, eqb, leb, List, [], ◌∷◌, length, is_ok, Some, Ok, Err, sym, refl, ap, ◌∙◌, subst, arith}
use Rattle.std.proofs.lemmas.Bool.{leb-true}
use Rattle.std.proofs.lemmas.Bool.Decides.{nat_tests}
use Rattle.records.specs.Services.{Services}
use Rattle.records.specs.Tests.{tested, and_then}
use Rattle.records.specs.declared.refusal.Refusal.{Refusal}
use Rattle.records.specs.declared.refusal.Refusal.TheVariants.{OutputLength, OutputFull}
use Rattle.records.proofs.Tested.{passed, tested_passed}
use Rattle.tecmp.specs.Entries.{Entries, entries_by, entries}
use Rattle.tecmp.specs.Packets.{packet_entries}
use Rattle.tecmp.specs.Reading.{head_tests, head_of, head_reading}
use Rattle.tecmp.specs.declared.packet.Packet.{Packet}
use Rattle.tecmp.proofs.Walks.{by_packet, no_head}
use Rattle.canonical.specs.Calls.{room, taken, listed}
use Rattle.canonical.specs.Copies.{Taken}
use Rattle.canonical.specs.declared.state.Extent.{Extent}
use Rattle.canonical.specs.States.{after_all}
use Rattle.canonical.specs.Surveys.{surveyed}
use Rattle.canonical.specs.declared.copy.CanonicalCopy.{CanonicalCopy}
use Rattle.canonical.specs.declared.state.State.{State}

-- with the copy's own output, what the entries are decides
pub own_output : (services : Services) (s : State) (bytes : List ℕ) (lent : ℕ) → lent ≡ s.capacity
    → taken services s bytes lent ≡ and_then (entries services (Some s.stream) bytes) (room services s)
own_output services s bytes lent own =
    let e : eqb lent s.capacity ≡ true = grind (arith, nat_tests) in
    tested_passed ((eqb lent s.capacity, OutputLength) ∷ []) _ (e, tt)

surveyed_err : (services : Services) (x : Extent) (es : Entries) (w : Refusal) → Err w ≡ surveyed services x es → es ≡ Err w
surveyed_err services x (Ok es) w e = cc
surveyed_err services x (Err v) w e = let z : v ≡ w = cc in ap Err z

surveyed_ok : (services : Services) (x : Extent) (es : Entries) (y : Extent) → Ok y ≡ surveyed services x es → (es ≡ Ok (listed es)) × (y ≡ after_all services x (listed es))
surveyed_ok services x (Ok es) y e = (refl, cc)
surveyed_ok services x (Err v) y e = cc

module _ {R : Type 0} (services : R → Services) (copy : CanonicalCopy R) (bytes : List ℕ) where
  abbrev own : Services
  own = services copy.registry.now

  abbrev all : Entries
  all = entries own (Some copy.state.stream) bytes

  -- not opened
  pub not_opened : (lent : ℕ) → lent ≡ copy.state.capacity → (w : Refusal) → Err w ≡ head_reading own (Some copy.state.stream) bytes → Err w ≡ taken own copy.state bytes lent
  not_opened lent same w e = ap (λ es. and_then es (room own copy.state)) (no_head own (Some copy.state.stream) bytes _ w e) ∙ sym (own_output own copy.state bytes lent same)

  -- opened
  module _ (packet : Packet R) (head : Ok packet.head ≡ head_reading own (Some copy.state.stream) bytes) (same : (packet.registry.now ≡ copy.registry.now) × (packet.bytes.now ≡ bytes)) where
    read : packet_entries services packet 12 ≡ all
    read = by_packet services copy.registry.now (Some copy.state.stream) bytes (λ m h s. entries_by (m h.code) h.shares h.code s 12) packet head same

    pub short : length packet.bytes.now ≤ 1500
    short =
        let p = passed (head_tests own (Some copy.state.stream) bytes) (Ok (head_of own bytes)) packet.head (sym head) in
        subst (λ s. length s ≤ 1500) (sym same.1) (leb-true _ _ p.0.1.0)

    same_survey : surveyed (services packet.registry.now) copy.state.extent (packet_entries services packet 12) ≡ surveyed own copy.state.extent all
    same_survey = ap (λ registry. surveyed (services registry) copy.state.extent (packet_entries services packet 12)) same.0 ∙ ap (surveyed own copy.state.extent) read

    -- refused in its entries
    pub not_surveyed : (lent : ℕ) → lent ≡ copy.state.capacity → (w : Refusal)
        → Err w ≡ surveyed (services packet.registry.now) copy.state.extent (packet_entries services packet 12) → Err w ≡ taken own copy.state bytes lent
    not_surveyed lent mine w e =
        ap (λ es. and_then es (room own copy.state)) (sym (surveyed_err own copy.state.extent all w (e ∙ same_survey))) ∙ sym (own_output own copy.state bytes lent mine)

    -- looked over: the room decides
    module _ (reached : Extent) (survey : Ok reached ≡ surveyed (services packet.registry.now) copy.state.extent (packet_entries services packet 12)) where
      looked : (all ≡ Ok (listed all)) × (reached ≡ after_all own copy.state.extent (listed all))
      looked = surveyed_ok own copy.state.extent all reached (survey ∙ same_survey)

      by_room : (lent : ℕ) → lent ≡ copy.state.capacity → taken own copy.state bytes lent ≡ tested ((leb (reached.length + 4) copy.state.capacity, OutputFull) ∷ []) (Ok tt)
      by_room lent mine =
          own_output own copy.state bytes lent mine
          ∙ ap (λ es. and_then es (room own copy.state)) looked.0
          ∙ ap (λ (x : Extent). tested ((leb (x.length + 4) copy.state.capacity, OutputFull) ∷ []) (Ok tt)) (sym looked.1)

      pub full : (lent : ℕ) → lent ≡ copy.state.capacity → leb (reached.length + 4) copy.state.capacity ≡ false → Err OutputFull ≡ taken own copy.state bytes lent
      full lent mine not_fit = sym (by_room lent mine ∙ ap (λ b. tested ((b, OutputFull) ∷ []) (Ok tt)) not_fit)

      pub done : (lent : ℕ) → lent ≡ copy.state.capacity → leb (reached.length + 4) copy.state.capacity ≡ true → Ok tt ≡ taken own copy.state bytes lent
      done lent mine fits = sym (by_room lent mine ∙ ap (λ b. tested ((b, OutputFull) ∷ []) (Ok tt)) fits)

      pub may_take : leb (reached.length + 4) copy.state.capacity ≡ true → Taken services copy packet bytes
      may_take fits = record {
        by = same.0;
        read = read;
        whole = ap is_ok (read ∙ looked.0);
        fits = subst (λ n. n + 4 ≤ copy.state.capacity) (ap (λ (x : Extent). x.length) (looked.1 ∙ ap (λ es. after_all own copy.state.extent (listed es)) (sym read))) (leb-true _ _ fits);
      }
