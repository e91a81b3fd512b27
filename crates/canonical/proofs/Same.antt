-- Accepted entries have one canonical encoding exactly where they say the same. Assumes nothing.
use Rattle.std.proofs.Common.{◌≡◌, true, List, [], ◌∷◌, map, is_ok, sym, refl, ap, ap₂, ◌∙◌, subst}
use Rattle.std.specs.List.{AllByRecursion}
use Rattle.records.specs.Services.{Services, LawfulService, checked_by, sense_by, canonical_flags_by, canonical_by}
use Rattle.records.specs.declared.code.Code.{Code}
use Rattle.records.proofs.Served.{one_encoding_by, one_sense_by}
use Rattle.tecmp.specs.Reading.{Entry}
use Rattle.tecmp.specs.Statements.{Statement, stated}
use Rattle.tecmp.specs.declared.head.Stream.{Stream}
use Rattle.copy_format.specs.Items.{Item, item_of}
use Rattle.canonical.specs.Law.{canonical_entry}
use Rattle.canonical.proofs.Accepted.{Accepted}

module _ (services : Services) (law : (code : Code) → LawfulService (services code)) where
  module _ (stream stream' : Stream) (e e' : Entry) (a : Accepted services stream e) (a' : Accepted services stream' e') where
    -- the second entry under the first one's code
    there : e.code ≡ e'.code → is_ok (checked_by (services e.code) e'.flags e'.bytes) ≡ true
    there q = subst (λ code. is_ok (checked_by (services code) e'.flags e'.bytes) ≡ true) (sym q) a'.passes

    pub one_statement : canonical_entry services e ≡ canonical_entry services e' → stated services e ≡ stated services e'
    one_statement q =
        let code : e.code ≡ e'.code = ap (λ (x : Entry). x.code) q in
        let interface : e.interface ≡ e'.interface = ap (λ (x : Entry). x.interface) q in
        let time : e.time ≡ e'.time = ap (λ (x : Entry). x.time) q in
        let flags : canonical_flags_by (services e.code) e.flags e.bytes ≡ canonical_flags_by (services e.code) e'.flags e'.bytes =
        ap (λ (x : Entry). x.flags) q ∙ ap (λ c. canonical_flags_by (services c) e'.flags e'.bytes) (sym code) in
        let bytes : canonical_by (services e.code) e.flags e.bytes ≡ canonical_by (services e.code) e'.flags e'.bytes =
        ap (λ (x : Entry). x.bytes) q ∙ ap (λ c. canonical_by (services c) e'.flags e'.bytes) (sym code) in
        let sense : sense_by (services e.code) e.flags e.bytes ≡ sense_by (services e'.code) e'.flags e'.bytes =
        one_sense_by (services e.code) (law e.code) e.flags e.bytes e'.flags e'.bytes a.flags_fit a.are_bytes a'.flags_fit a'.are_bytes a.passes (there code) flags bytes
        ∙ ap (λ c. sense_by (services c) e'.flags e'.bytes) code in
        cc

    pub one_item : stated services e ≡ stated services e' → item_of services e ≡ item_of services e'
    one_item q =
        let code : e.code ≡ e'.code = ap (λ (x : Statement). x.code) q in
        let interface : e.interface ≡ e'.interface = ap (λ (x : Statement). x.interface) q in
        let time : e.time ≡ e'.time = ap (λ (x : Statement). x.time) q in
        let sense : sense_by (services e.code) e.flags e.bytes ≡ sense_by (services e.code) e'.flags e'.bytes =
        ap (λ (x : Statement). x.sense) q ∙ ap (λ c. sense_by (services c) e'.flags e'.bytes) (sym code) in
        let one = one_encoding_by (services e.code) (law e.code) e.flags e.bytes e'.flags e'.bytes a.flags_fit a.are_bytes a'.flags_fit a'.are_bytes a.passes (there code) sense in
        let flags : canonical_flags_by (services e.code) e.flags e.bytes ≡ canonical_flags_by (services e'.code) e'.flags e'.bytes = one.0 ∙ ap (λ c. canonical_flags_by (services c) e'.flags e'.bytes) code in
        let bytes : canonical_by (services e.code) e.flags e.bytes ≡ canonical_by (services e'.code) e'.flags e'.bytes = one.1 ∙ ap (λ c. canonical_by (services c) e'.flags e'.bytes) code in
        cc

  module _ (stream stream' : Stream) where
    pub all_statements : (es es' : List Entry) → AllByRecursion (Accepted services stream) es → AllByRecursion (Accepted services stream') es'
        → map (canonical_entry services) es ≡ map (canonical_entry services) es' → map (stated services) es ≡ map (stated services) es'
    all_statements [] [] a a' q = refl
    all_statements [] (e' ∷ es') a a' q = cc
    all_statements (e ∷ es) [] a a' q = cc
    all_statements (e ∷ es) (e' ∷ es') a a' q =
        let head : canonical_entry services e ≡ canonical_entry services e' = cc in
        let tail : map (canonical_entry services) es ≡ map (canonical_entry services) es' = cc in
        ap₂ {C = List Statement} (λ x xs. x ∷ xs) (one_statement stream stream' e e' a.0 a'.0 head) (all_statements es es' a.1 a'.1 tail)

    pub all_items : (es es' : List Entry) → AllByRecursion (Accepted services stream) es → AllByRecursion (Accepted services stream') es'
        → map (stated services) es ≡ map (stated services) es' → map (item_of services) es ≡ map (item_of services) es'
    all_items [] [] a a' q = refl
    all_items [] (e' ∷ es') a a' q = cc
    all_items (e ∷ es) [] a a' q = cc
    all_items (e ∷ es) (e' ∷ es') a a' q =
        let head : stated services e ≡ stated services e' = cc in
        let tail : map (stated services) es ≡ map (stated services) es' = cc in
        ap₂ {C = List Item} (λ x xs. x ∷ xs) (one_item stream stream' e e' a.0 a'.0 head) (all_items es es' a.1 a'.1 tail)
