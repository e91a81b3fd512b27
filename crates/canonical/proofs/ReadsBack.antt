-- The canonical copy of accepted entries is read back as these entries. Assumes nothing.
use Rattle.std.proofs.Common.{◌≡◌, ℕ, ◌<◌, ◌≤◌, eqb, leb, List, [], ◌∷◌, ◌++◌, map, length, Some, Ok, refl, sym, ap, ap₂, ◌∙◌, subst, arith}
use Rattle.std.specs.List.{AllByRecursion}
use Rattle.std.proofs.ByRecursion.{All-map, All-weaker}
use Rattle.std.proofs.lemmas.List.{length-map}
use Rattle.std.proofs.lemmas.Bool.{leb-true, eqb-true}
use Rattle.std.proofs.lemmas.Option.{cond_some}
use Rattle.records.specs.Codes.{code_with}
use Rattle.records.specs.Services.{Services, LawfulService}
use Rattle.records.specs.declared.code.Code.{Code}
use Rattle.records.specs.declared.code.MessageType.{MessageType}
use Rattle.records.specs.declared.code.MessageType.TheVariants.{LoggingStream, ReplayData}
use Rattle.tecmp.specs.Reading.{Entry}
use Rattle.tecmp.specs.declared.head.Stream.{Stream}
use Rattle.copy_format.specs.Cutting.{flat, NonEmpty}
use Rattle.copy_format.specs.Image.{packet_limit, packets_of, image}
use Rattle.copy_format.specs.Items.{Item, item_of, sharing}
use Rattle.copy_format.specs.ReadingBack.{without_offset, Contents, entries_of, read_back}
use Rattle.copy_format.proofs.CopiesRead.{packets_placed, copy_reads}
use Rattle.copy_format.proofs.Cuts.{flat-cut}
use Rattle.copy_format.proofs.PacketsRead.{Narrow, Fit}
use Rattle.copy_format.proofs.Placed.{entry_as, packets_as}
use Rattle.canonical.specs.Calls.{stream_of}
use Rattle.canonical.specs.Law.{canonical_entry}
use Rattle.canonical.proofs.Accepted.{Accepted, may_stand, packets_pass}
use Rattle.canonical.proofs.Encodings.{fit}

-- a copy's own stream is narrow
pub narrow_own : (type : MessageType) (device : ℕ) (stream : Stream) → stream_of (Some type) device ≡ Some stream → Narrow type device
narrow_own LoggingStream device stream e = leb-true _ _ (cond_some (leb device 255) (record { message_type = LoggingStream; «module» = device }) stream e).0
narrow_own ReplayData device stream e = eqb-true _ _ (cond_some (eqb device 0) (record { message_type = ReplayData; «module» = device }) stream e).0

module _ {A : Type 0} (P : A → Type 0) where
  parts : (p q : List A) → AllByRecursion P (p ++ q) → AllByRecursion P p × AllByRecursion P q
  parts [] q h = (tt, h)
  parts (x ∷ p) q h = let r = parts p q h.1 in ((h.0, r.0), r.1)

  all_runs : (ps : List (List A)) → AllByRecursion P (flat ps) → AllByRecursion (AllByRecursion P) ps
  all_runs [] h = tt
  all_runs (p ∷ ps) h = let r = parts p (flat ps) h in (r.0, all_runs ps r.1)

nonempty_if : {A : Type 0} (ps : List (List A)) → 0 < length (flat ps) → NonEmpty ps
nonempty_if [] h = absurd (omega (arith, h))
nonempty_if (p ∷ ps) h = tt

module _ (services : Services) (law : (code : Code) → LawfulService (services code)) (stream : Stream) (narrow : Narrow stream.message_type stream.«module»)
    (es : List Entry) (accepted : AllByRecursion (Accepted services stream) es) where
  abbrev ps : List (List Item)
  ps = packets_of services stream es

  pub items_are : flat ps ≡ map (item_of services) es
  items_are = flat-cut (may_stand services stream) (map (item_of services) es)

  abbrev pub contents : Contents
  contents = record { stream = stream; packets = packets_placed stream.message_type 0 ps }

  all_fit : AllByRecursion (AllByRecursion (Fit services stream narrow)) ps
  all_fit =
      all_runs (Fit services stream narrow) ps
      (subst (AllByRecursion (Fit services stream narrow)) (sym items_are)
      (All-map (Fit services stream narrow) (item_of services) es
      (All-weaker (Accepted services stream) (λ e. Fit services stream narrow (item_of services e)) (λ e a. fit services law stream e a narrow) es accepted)))

  pub image_reads : 0 < length es → length (image services stream es) ≤ 16777216 → read_back services (image services stream es) ≡ Ok contents
  image_reads some short =
      let n : length (flat ps) ≡ length es = ap length items_are ∙ length-map es (item_of services) in
      copy_reads services stream narrow ps (nonempty_if ps (omega (arith, n, some))) short (packets_pass services stream law es accepted) all_fit

  as_canonical : (fs : List Entry) → AllByRecursion (Accepted services stream) fs → map (entry_as stream.message_type) (map (item_of services) fs) ≡ map (canonical_entry services) fs
  as_canonical [] a = refl
  as_canonical (f ∷ fs) a =
      let code : code_with stream.message_type f.code.data_type ≡ f.code = ap (λ t. code_with t f.code.data_type) (sym a.0.of_stream) in
      let first : entry_as stream.message_type (item_of services f) ≡ canonical_entry services f = cc in
      ap₂ {C = List Entry} (λ x xs. x ∷ xs) first (as_canonical fs a.1)

  pub contents_are : map without_offset (entries_of contents) ≡ map (canonical_entry services) es
  contents_are =
      packets_as stream.message_type (sharing services stream.message_type) packet_limit ps 0 (packets_pass services stream law es accepted)
      ∙ ap (map (entry_as stream.message_type)) items_are
      ∙ as_canonical es accepted
