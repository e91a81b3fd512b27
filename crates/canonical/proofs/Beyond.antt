-- What lies past a copy stays as it was. Assumes nothing.
use Rattle.std.proofs.Common.{◌≡◌, ℕ, ◌+◌, ◌-◌, ◌≤◌, eqb, leb, ltb, List, [], ◌∷◌, ◌++◌, length, take, drop, replicate, Some, None, Option, Ok, Err, Result, refl, sym, ap, ◌∙◌, arith}
use Rattle.std.proofs.lemmas.List.{append_assoc, length-append, length-replicate, length-take-le, drop_at, drop-drop}
use Rattle.std.proofs.lemmas.Bool.{eqb-true, leb-true}
use Rattle.records.specs.Services.{Services}
use Rattle.records.specs.declared.refusal.Refusal.{Refusal}
use Rattle.records.specs.declared.refusal.Refusal.TheVariants.{OutputLength, NoEntries, OutputFull}
use Rattle.records.proofs.Tested.{passed}
use Rattle.tecmp.specs.Entries.{entries}
use Rattle.tecmp.specs.Reading.{Entry}
use Rattle.tecmp.specs.declared.head.Stream.{Stream}
use Rattle.copy_format.specs.Image.{packet_head, item_bytes, word, filling}
use Rattle.copy_format.specs.Items.{Item, item_of, size}
use Rattle.copy_format.proofs.Lengths.{length-word, length-item, length-packet_head}
use Rattle.canonical.specs.Calls.{entry_of, Leaves, add_tests, room, listed, entries_in, closing, KeepsBeyond}
use Rattle.canonical.specs.declared.state.Extent.{Extent}
use Rattle.canonical.specs.States.{spliced, frame, packet_for, extended, begun, appended, joined_in, after, put, after_all, put_all}
use Rattle.canonical.specs.declared.state.Closed.{Closed}
use Rattle.canonical.specs.declared.state.OpenPacket.{OpenPacket}
use Rattle.canonical.specs.declared.state.State.{State}
use Rattle.canonical.proofs.Growth.{grows_all}
use Rattle.canonical.proofs.Taken.{then_ok}
use Rattle.canonical.proofs.Places.{length-spliced, length_two}

pub drop_spliced : (out xs : List ℕ) (p k : ℕ) → p + length xs ≤ length out → p + length xs ≤ k → drop k (spliced out p xs) ≡ drop k out
drop_spliced out xs p k fits far =
    let n : ℕ = p + length xs in
    let l : length (take p out ++ xs) ≡ n = length-append (take p out) xs ∙ ap (λ m. m + length xs) (length-take-le p out (omega arith)) in
    let e : n + (k - n) ≡ k = omega arith in
    ap (drop k) (sym (append_assoc (take p out) xs (drop n out)))
    ∙ ap (λ m. drop m ((take p out ++ xs) ++ drop n out)) (sym e)
    ∙ sym (drop-drop (k - n) n ((take p out ++ xs) ++ drop n out))
    ∙ ap (drop (k - n)) (drop_at (take p out ++ xs) (drop n out) n l)
    ∙ drop-drop (k - n) n out
    ∙ ap (λ m. drop m out) e

module _ (p : OpenPacket) (i : Item) (out : List ℕ) (fits : p.begins + frame (p.size + size i) ≤ length out) where
  abbrev n : ℕ
  n = p.size + size i

  abbrev piece : List ℕ
  piece = item_bytes i ++ replicate (filling n) 0

  length_piece : length piece ≡ size i + filling n
  length_piece = let z : length (replicate {A = ℕ} (filling n) 0) ≡ filling n = length-replicate {A = ℕ} (filling n) 0 in omega (arith, length-append (item_bytes i) (replicate (filling n) 0), length-item i, z)

  length_appended : length (appended p i out) ≡ length out
  length_appended = length_two out (word 1 n) piece p.begins p.size (length-word 1 n) (omega (arith, length_piece, fits))

  beyond_appended : (k : ℕ) → p.begins + frame n ≤ k → drop k (appended p i out) ≡ drop k out
  beyond_appended k far =
      let w = length-word 1 n in
      let l : length (spliced out p.begins (word 1 n)) ≡ length out = length-spliced out (word 1 n) p.begins (omega arith) in
      drop_spliced (spliced out p.begins (word 1 n)) piece (p.begins + 4 + p.size) k (omega (arith, length_piece, l, fits)) (omega (arith, length_piece, far))
      ∙ drop_spliced out (word 1 n) p.begins k (omega arith) (omega arith)

module _ (stream : Stream) (x : Extent) (type : ℕ) (i : Item) (out : List ℕ) where
  -- an entry in its packet, joined or begun
  entered : (j : Option OpenPacket) → (extended x j type (size i)).length ≤ length out
      → (length (appended (packet_for x j type) i (begun stream x j type out)) ≡ length out)
      × ((k : ℕ) → (extended x j type (size i)).length ≤ k → drop k (appended (packet_for x j type) i (begun stream x j type out)) ≡ drop k out)
  entered (Some p) fits = (length_appended p i out fits, beyond_appended p i out fits)
  entered None fits =
      let p : OpenPacket = packet_for x None type in
      let head : List ℕ = packet_head stream (x.packets + 1) type in
      let lh : length head ≡ 12 = length-packet_head stream (x.packets + 1) type in
      let lb : length (begun stream x None type out) ≡ length out = length-spliced out head (x.length + 4) (omega arith) in (
        length_appended p i (begun stream x None type out) (omega (arith, lb, fits)) ∙ lb,
        λ k far. beyond_appended p i (begun stream x None type out) (omega (arith, lb, fits)) k far ∙ drop_spliced out head (x.length + 4) k (omega arith) (omega arith),
      )

module _ (services : Services) where
  -- several entries
  pub beyond : (stream : Stream) (x : Extent) (out : List ℕ) (es : List Entry) → (after_all services x es).length ≤ length out
      → (length (put_all services stream x es out) ≡ length out) × ((k : ℕ) → (after_all services x es).length ≤ k → drop k (put_all services stream x es out) ≡ drop k out)
  beyond stream x out [] fits = (refl, λ k far. refl)
  beyond stream x out (e ∷ es) fits =
      let y : Extent = after services x e in
      let g : y.length ≤ (after_all services y es).length = grows_all services y es refl in
      let one = entered stream x e.code.data_type (item_of services e) out (joined_in services x e) (omega (arith, g, fits)) in
      let rest = beyond stream y (put services stream x e out) es (omega (arith, one.0, fits)) in
      (rest.0 ∙ one.0, λ k far. rest.1 k far ∙ one.1 k (omega (arith, g, far)))

  -- after a call that would let these entries in
  left : (s s' : State) (out out' : List ℕ) (es : List Entry) (r : Result (Unit {0}) Refusal) → (r ≡ Ok tt → (after_all services s.extent es).length ≤ length out)
      → Leaves services s es out r s' out' → drop s'.extent.length out' ≡ drop s'.extent.length out
  left s s' out out' es (Ok tt) fits l =
      let n : s'.extent.length ≡ (after_all services s.extent es).length = ap (λ (t : State). t.extent.length) l.0 in
      ap (drop s'.extent.length) l.1 ∙ (beyond s.stream s.extent out es (fits refl)).1 s'.extent.length (omega (arith, n))
  left s s' out out' es (Err w) fits l = ap (drop s'.extent.length) l.1

  pub keeps_beyond : KeepsBeyond services
  keeps_beyond s s' out out' = (
    λ a r adds.
        left s s' out out' (entry_of s.stream a ∷ []) r
        (λ e. let p = (passed (add_tests services s (entry_of s.stream a) (length out)) (Ok tt) tt (sym adds.0 ∙ e)).0 in
        omega (arith, eqb-true _ _ p.0, leb-true _ _ p.1.1.1.1.1.1.0)) adds.1,
    λ packet r takes.
        left s s' out out' (entries_in services s packet) r
        (λ e. let p = passed ((eqb (length out) s.capacity, OutputLength) ∷ []) _ tt (sym takes.0 ∙ e) in
        let t = then_ok (entries services (Some s.stream) packet) (room services s) tt p.1 in
        let q = (passed ((leb ((after_all services s.extent t.0).length + 4) s.capacity, OutputFull) ∷ []) (Ok tt) tt t.2).0.0 in
        let n = ap (λ es. (after_all services s.extent (listed es)).length) t.1 in
        omega (arith, eqb-true _ _ p.0.0, leb-true _ _ q, n)) takes.1,
    λ c fits closes.
        let p = passed ((eqb (length out) s.capacity, OutputLength) ∷ (ltb 0 s.extent.entries, NoEntries) ∷ []) (Ok (closing s)) c (sym closes.0) in
        let same : closing s ≡ c = let q = p.1 in cc in
        let n : c.bytes ≡ s.extent.length + 4 = ap (λ (k : Closed). k.bytes) (sym same) in
        let w = length-word 2 s.extent.entries in
        ap (drop c.bytes) closes.1 ∙ drop_spliced out (word 2 s.extent.entries) s.extent.length c.bytes (omega (arith, w, fits)) (omega (arith, w, n)),
  )
