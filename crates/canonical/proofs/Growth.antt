-- Several entries: a copy only grows, and stands for all of them. Assumes nothing.
use Rattle.std.proofs.Common.{◌≡◌, ℕ, ◌+◌, ◌≤◌, Bool, ◌&&◌, eqb, leb, List, [], ◌∷◌, ◌++◌, length, Some, None, Option, sym, refl, ◌∙◌, subst, arith}
use Rattle.std.specs.List.{AllByRecursion}
use Rattle.std.proofs.lemmas.List.{append_assoc, append-nil}
use Rattle.std.proofs.lemmas.Bool.{cond_both}
use Rattle.records.specs.Services.{Services, LawfulService, shares_in}
use Rattle.records.specs.declared.code.Code.{Code}
use Rattle.tecmp.specs.Reading.{Entry}
use Rattle.tecmp.specs.declared.head.Stream.{Stream}
use Rattle.copy_format.specs.Image.{packet_limit, packets_of}
use Rattle.copy_format.specs.Items.{item_of, size}
use Rattle.canonical.specs.Sound.{end_of}
use Rattle.canonical.specs.States.{frame, extended, joined_by, after, put, after_all, put_all}
use Rattle.canonical.specs.declared.state.Extent.{Extent}
use Rattle.canonical.specs.declared.state.OpenPacket.{OpenPacket}
use Rattle.canonical.proofs.Accepted.{Accepted}
use Rattle.canonical.proofs.Ready.{room_tail}
use Rattle.canonical.proofs.Holds.{LastIs, Holds, holds_more, length-put}

frame_grows : (m n : ℕ) → frame m ≤ frame (m + n)
frame_grows m n = omega arith

further : (x : Extent) (o : Option OpenPacket) (shares : Bool) (type n : ℕ) → x.length ≡ end_of x.length o
    → x.length ≤ (extended x (joined_by o shares type n) type n).length
further x None shares type n e = omega arith
further x (Some p) shares type n e =
    cond_both (leb (p.size + n) packet_limit && (eqb p.data_type type && shares)) (Some p) None (λ j. x.length ≤ (extended x j type n).length)
    (λ _. let g = frame_grows p.size n in omega arith)
    (λ _. omega arith)

module _ (services : Services) where
  pub grows : (x : Extent) (e : Entry) → x.length ≡ end_of x.length x.last → x.length ≤ (after services x e).length
  grows x e h = further x x.last (shares_in (services e.code)) e.code.data_type (size (item_of services e)) h

  pub grows_all : (x : Extent) (es : List Entry) → x.length ≡ end_of x.length x.last → x.length ≤ (after_all services x es).length
  grows_all x [] h = omega arith
  grows_all x (e ∷ es) h =
      let a : x.length ≤ (after services x e).length = grows x e h in
      let b : (after services x e).length ≤ (after_all services (after services x e) es).length = grows_all (after services x e) es refl in
      omega arith

  -- the copy ends after its last packet
  pub ends : (stream : Stream) (x : Extent) (out : List ℕ) (es : List Entry) → Holds services stream x out es → x.length ≡ end_of x.length x.last
  ends stream x out es h = go x.last h.last_is
    where
      go : (o : Option OpenPacket) → LastIs (packets_of services stream es) o → x.length ≡ end_of x.length o
      go None z = refl
      go (Some p) t = h.reaches ∙ room_tail (packets_of services stream es) p t

  module _ (law : (code : Code) → LawfulService (services code)) (stream : Stream) where
    pub holds_all : (x : Extent) (out : List ℕ) (es new : List Entry) → Holds services stream x out es → AllByRecursion (Accepted services stream) new
        → (after_all services x new).length + 4 ≤ length out
        → (length (put_all services stream x new out) ≡ length out) × Holds services stream (after_all services x new) (put_all services stream x new out) (es ++ new)
    holds_all x out es [] h a f = (refl, subst (Holds services stream x out) (sym (append-nil es)) h)
    holds_all x out es (e ∷ new) h a f =
        let g : (after services x e).length ≤ (after_all services (after services x e) new).length = grows_all (after services x e) new refl in
        let fit : (after services x e).length + 4 ≤ length out = omega arith in
        let l : length (put services stream x e out) ≡ length out = length-put services law stream x out es h e a.0 fit in
        let rest = holds_all (after services x e) (put services stream x e out) (es ++ e ∷ []) new (holds_more services law stream x out es h e a.0 fit) a.1 (omega arith) in
        (rest.0 ∙ l, subst (Holds services stream (after_all services x (e ∷ new)) (put_all services stream x (e ∷ new) out)) (append_assoc es (e ∷ []) new) rest.1)
