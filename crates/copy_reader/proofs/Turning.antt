-- From the end of one packet of a copy to the next. Assumes nothing.
use Rattle.std.proofs.Common.{◌≡◌, ℕ, ◌+◌, List, [], ◌++◌, length, take, drop, is_ok, Some, None, Ok, Err, Result, sym, refl, ap, ap₂, ◌∙◌, subst, arith}
use Rattle.std.specs.Result.{result_ok}
use Rattle.records.specs.Services.{Services}
use Rattle.records.specs.declared.refusal.Refusal.{Refusal}
use Rattle.tecmp.specs.Reading.{Entry, head_reading}
use Rattle.tecmp.specs.declared.packet.Packet.{Packet}
use Rattle.tecmp.proofs.Walks.{no_head}
use Rattle.copy_format.specs.Image.{filling}
use Rattle.copy_format.specs.ReadingBack.{packet_of, part_of, packets_from}
use Rattle.copy_reader.specs.Cursors.{flattened, entries_left, Passed, left_here, packets_left, Sound, Opens}
use Rattle.copy_reader.specs.declared.cursor.Place.{Place}
use Rattle.copy_reader.specs.declared.cursor.Cursor.{Cursor}
use Rattle.copy_reader.proofs.Opening.{opened, not_opened}
use Rattle.copy_reader.proofs.Passes.{after_within}

-- what `ok` keeps of a result
pub was_ok : {A E : Type 0} (r : Result A E) (x : A) → Some x ≡ result_ok r → r ≡ Ok x
was_ok (Ok y) x e = let same : y ≡ x = cc in ap Ok same
was_ok (Err w) x e = absurd cc

pub was_err : {A E : Type 0} (r : Result A E) → None ≡ result_ok r → (w : E) × (r ≡ Err w)
was_err (Ok y) e = absurd cc
was_err (Err w) e = (w, refl)

module _ {R : Type 0} (services : R → Services) (c : Cursor R) (sound : Sound services c) (at_end : left_here services c.place ≡ []) where
  abbrev own : Services
  own = services c.registry.now

  abbrev count : ℕ
  count = c.handed + length (left_here services c.place)

  module _ (bytes : List ℕ) (part : part_of (drop c.next c.copy.now) ≡ packet_of (length bytes)) (shown : bytes ≡ take (length bytes) (drop 4 (drop c.next c.copy.now))) where
    pub opens : (packet : Packet R) → Ok packet.head ≡ head_reading own (Some c.stream) bytes → (packet.registry.now ≡ c.registry.now) × (packet.bytes.now ≡ bytes)
        → (next : ℕ) → c.next + 4 + (length bytes + filling (length bytes)) ≡ next
        → Opens services c (record { registry = c.registry; stream = c.stream; copy = c.copy; place = Some (record { packet = packet; base = c.next + 4; offset = 12 }); next = next; handed = c.handed })
    opens packet head same next e =
        let place : Place R = record { packet = packet; base = c.next + 4; offset = 12 } in
        let es : List Entry = entries_left services place in
        let o = opened services c.registry.now c.stream c.copy.now c.next count bytes part shown packet head same sound.after in
        let z : length (left_here services c.place) ≡ 0 = ap length at_end in
        let n : count + length es ≡ c.handed + length es = omega arith in
        let w = after_within own c.stream c.copy.now c.next count bytes part shown sound.within in
        let size : length packet.bytes.now ≡ length bytes = ap length same.1 in
        record {
          left = ap (λ (xs : List Entry). xs ++ flattened (packets_left services c)) at_end
              ∙ o.first
              ∙ ap₂ (λ k m. es ++ flattened (packets_from own c.stream c.copy.now k m)) e n;
          alike = (refl, refl, refl);
          sound = record {
            small = sound.small;
            within = omega (arith, w, e);
            few = omega (arith, o.few, size, sound.few, z, e);
            here = λ x is. subst (λ (p : Place R). Passed services p) (let same : place ≡ x = cc in same) (o.passed, omega (arith, w, size, sound.small));
            after = ap₂ (λ k m. is_ok (packets_from own c.stream c.copy.now k m)) (sym e) (sym n) ∙ o.rest;
          };
          some = o.some;
        }

    pub not_refused : (w : Refusal) → Err w ≡ head_reading own (Some c.stream) bytes → ⊥
    not_refused w refused = not_opened services c.registry.now c.stream c.copy.now c.next count bytes part shown w (sym (no_head own (Some c.stream) bytes _ w refused)) sound.after
