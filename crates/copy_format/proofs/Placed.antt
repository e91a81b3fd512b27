-- What is read of a copy, offsets aside, are its items. Assumes nothing.
use Rattle.std.proofs.Common.{◌≡◌, ℕ, suc, ◌+◌, Bool, true, eqb, List, [], ◌∷◌, ◌++◌, map, length, refl, sym, ap, ap₂, ◌∙◌}
use Rattle.std.specs.List.{AllByRecursion}
use Rattle.std.proofs.lemmas.List.{map-append}
use Rattle.std.proofs.lemmas.Bool.{and_parts, and_from, eqb-true, eq-eqb}
use Rattle.records.specs.Codes.{code_with}
use Rattle.records.specs.declared.code.MessageType.{MessageType}
use Rattle.tecmp.specs.Reading.{Entry}
use Rattle.copy_format.specs.Cutting.{flat, Passes}
use Rattle.copy_format.specs.Image.{filling}
use Rattle.copy_format.specs.Items.{Item, size, sizes, all_of_type, allowed}
use Rattle.copy_format.specs.ReadingBack.{entry_moved, without_offset, item_read}
use Rattle.copy_format.proofs.CopiesRead.{packets_placed}
use Rattle.copy_format.proofs.Packets.{fine}
use Rattle.copy_format.proofs.PacketsRead.{placed}

-- an item as an entry of no packet
abbrev pub entry_as : MessageType → Item → Entry
entry_as type i = record { code = code_with type i.data_type; interface = i.interface; time = i.time; flags = i.flags; bytes = i.bytes; from = 0 }

placed_as : (type : MessageType) (data_type base at : ℕ) (is : List Item) → all_of_type data_type is ≡ true
    → map without_offset (map (entry_moved base) (placed (code_with type data_type) at is)) ≡ map (entry_as type) is
placed_as type data_type base at [] h = refl
placed_as type data_type base at (i ∷ is) h =
    let both = and_parts (eqb data_type i.data_type) (all_of_type data_type is) h in
    let first : record { code = code_with type data_type; interface = i.interface; time = i.time; flags = i.flags; bytes = i.bytes; from = 0 } ≡ entry_as type i =
    ap (λ n. record { code = code_with type n; interface = i.interface; time = i.time; flags = i.flags; bytes = i.bytes; from = 0 }) (eqb-true _ _ both.0) in
    ap₂ {C = List Entry} (λ x xs. x ∷ xs) first (placed_as type data_type base (at + size i) is both.1)

module _ (type : MessageType) (shares : ℕ → Bool) (limit : ℕ) where
  pub packets_as : (ps : List (List Item)) (at : ℕ) → AllByRecursion (Passes (allowed shares limit)) ps → map without_offset (flat (packets_placed type at ps)) ≡ map (entry_as type) (flat ps)
  packets_as [] at may = refl
  packets_as ([] ∷ ps) at may = absurd may.0.0
  packets_as ((i ∷ is) ∷ ps) at may =
      let f = fine shares limit i is may.0.1 in
      let all : all_of_type i.data_type (i ∷ is) ≡ true = and_from _ _ (eq-eqb i.data_type i.data_type refl) f.one_type in
      let size' : ℕ = 12 + sizes (i ∷ is) in
      let own : List Entry = map (entry_moved (at + 4)) (placed (code_with type i.data_type) 12 (i ∷ is)) in
      map-append without_offset own (flat (packets_placed type (at + 4 + (size' + filling size')) ps))
      ∙ ap₂ {C = List Entry} (λ x y. x ++ y) (placed_as type i.data_type (at + 4) 12 (i ∷ is) all) (packets_as ps (at + 4 + (size' + filling size')) may.1)
      ∙ sym (map-append (entry_as type) (i ∷ is) (flat ps))

items_read : (type : MessageType) (data_type base at : ℕ) (is : List Item) → all_of_type data_type is ≡ true
    → map item_read (map (entry_moved base) (placed (code_with type data_type) at is)) ≡ is
items_read type data_type base at [] h = refl
items_read type data_type base at (i ∷ is) h =
    let both = and_parts (eqb data_type i.data_type) (all_of_type data_type is) h in
    let first : record { data_type = data_type; interface = i.interface; time = i.time; flags = i.flags; bytes = i.bytes } ≡ i =
    ap (λ n. record { data_type = n; interface = i.interface; time = i.time; flags = i.flags; bytes = i.bytes }) (eqb-true _ _ both.0) in
    ap₂ {C = List Item} (λ x xs. x ∷ xs) first (items_read type data_type base (at + size i) is both.1)

-- the packets that are read hold the items that were written
pub packets_read : (type : MessageType) (shares : ℕ → Bool) (limit : ℕ) (ps : List (List Item)) (at : ℕ) → AllByRecursion (Passes (allowed shares limit)) ps
    → map (map item_read) (packets_placed type at ps) ≡ ps
packets_read type shares limit [] at may = refl
packets_read type shares limit ([] ∷ ps) at may = absurd may.0.0
packets_read type shares limit ((i ∷ is) ∷ ps) at may =
    let f = fine shares limit i is may.0.1 in
    let all : all_of_type i.data_type (i ∷ is) ≡ true = and_from _ _ (eq-eqb i.data_type i.data_type refl) f.one_type in
    let size' : ℕ = 12 + sizes (i ∷ is) in
    ap₂ {C = List (List Item)} (λ x xs. x ∷ xs) (items_read type i.data_type (at + 4) 12 (i ∷ is) all) (packets_read type shares limit ps (at + 4 + (size' + filling size')) may.1)

pub length-packets_placed : (type : MessageType) (at : ℕ) (ps : List (List Item)) → length (packets_placed type at ps) ≡ length ps
length-packets_placed type at [] = refl
length-packets_placed type at (p ∷ ps) = ap suc (length-packets_placed type (at + 4 + (12 + sizes p + filling (12 + sizes p))) ps)
