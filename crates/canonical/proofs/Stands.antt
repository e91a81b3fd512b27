-- A copy's state and its own output stand for the entries that it has accepted, from its opening on. Assumes nothing.
use Rattle.std.proofs.Common.{◌≡◌, ℕ, ◌≤◌, ◌&&◌, eqb, leb, List, [], ◌∷◌, length, Some, None, Ok, Option, sym, refl, subst, arith}
use Rattle.std.proofs.lemmas.Bool.{and_parts, leb-true, cond-true}
use Rattle.std.proofs.lemmas.Option.{cond_some}
use Rattle.records.specs.Services.{Services}
use Rattle.records.specs.declared.code.MessageType.{MessageType}
use Rattle.records.specs.declared.code.MessageType.TheVariants.{LoggingStream, ReplayData}
use Rattle.records.specs.declared.refusal.Refusal.TheVariants.{OutputLength}
use Rattle.records.proofs.Tested.{passed}
use Rattle.tecmp.specs.Reading.{Entry}
use Rattle.tecmp.specs.declared.head.Stream.{Stream}
use Rattle.canonical.specs.Calls.{stream_of, opened_into}
use Rattle.canonical.specs.States.{nothing}
use Rattle.canonical.specs.declared.state.State.{State}
use Rattle.canonical.proofs.Holds.{Holds}

-- the copy's own output has the length that it was opened with; the stream is one that can be opened
pub record Stands (services : Services) (s : State) (out : List ℕ) (es : List Entry) : Type 0 where
  pub lent : s.capacity ≡ length out
  pub narrow : s.capacity ≤ 16777216
  pub own : stream_of (Some s.stream.message_type) s.stream.«module» ≡ Some s.stream
  pub holds : Holds services s.stream s.extent out es

pub moved : (services : Services) (s s' : State) (out out' : List ℕ) (es es' : List Entry) → s' ≡ s → out' ≡ out → es' ≡ es → Stands services s out es → Stands services s' out' es'
moved services s s' out out' es es' a b c st =
    subst (λ t. Stands services t out' es') (sym a) (subst (λ o. Stands services s o es') (sym b) (subst (Stands services s out) (sym c) st))

-- opening
own_stream : (o : Option MessageType) (device : ℕ) (stream : Stream) → stream_of o device ≡ Some stream
    → stream_of (Some stream.message_type) stream.«module» ≡ Some stream
own_stream None device stream e = cc
own_stream (Some LoggingStream) device stream e =
    let x : Stream = record { message_type = LoggingStream; «module» = device } in
    let h = cond_some (leb device 255) x stream e in
    subst (λ (y : Stream). stream_of (Some y.message_type) y.«module» ≡ Some y) h.1 (cond-true (leb device 255) (Some x) None h.0)
own_stream (Some ReplayData) device stream e =
    let x : Stream = record { message_type = ReplayData; «module» = device } in
    let h = cond_some (eqb device 0) x stream e in
    subst (λ (y : Stream). stream_of (Some y.message_type) y.«module» ≡ Some y) h.1 (cond-true (eqb device 0) (Some x) None h.0)

pub stands_opened : (services : Services) (type : Option MessageType) (device : ℕ) (s : State) (out : List ℕ) (o : Option Stream) → stream_of type device ≡ o
    → opened_into (length out) o ≡ Ok s → Stands services s out []
stands_opened services type device s out None q e = cc
stands_opened services type device s out (Some stream) q e =
    let x : State = record { stream = stream; capacity = length out; extent = nothing } in
    let p = passed ((leb 4 (length out) && leb (length out) 16777216, OutputLength) ∷ []) (Ok x) s e in
    let b = and_parts (leb 4 (length out)) (leb (length out) 16777216) p.0.0 in
    let low : 4 ≤ length out = leb-true _ _ b.0 in
    let i : x ≡ s = let r = p.1 in cc in
    subst (λ t. Stands services t out []) i (record {
      lent = refl;
      narrow = leb-true _ _ b.1;
      own = own_stream type device stream q;
      holds = record { fits = omega arith; written = refl; reaches = refl; entries_are = refl; packets_are = refl; last_is = refl; accepted = tt };
    })
