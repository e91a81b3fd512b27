-- The calls on one copy, in order, and the entries that it has accepted.
use Rattle.std.specs.Prelude.{◌≡◌, ℕ, List, [], ◌∷◌, ◌++◌, length, take, Ok, Err, Result}
use Rattle.records.specs.Services.{Services}
use Rattle.records.specs.Verdicts.{Bytes}
use Rattle.records.specs.declared.refusal.Refusal.{Refusal}
use Rattle.records.specs.declared.refusal.Refusal.TheVariants.{OutputLength}
use Rattle.tecmp.specs.Reading.{Entry}
use Rattle.copy_format.specs.Image.{image, packets_of}
use Rattle.canonical.specs.Calls.{opened, Addition, Typed, entry_of, Adds, entries_in, Takes, Closes}
use Rattle.canonical.specs.declared.state.Closed.{Closed}
use Rattle.canonical.specs.declared.state.State.{State}

-- a call that is done accepts its entries, a refused one none
abbrev pub accepted_if : Result (Unit {0}) Refusal → List Entry → List Entry
accepted_if (Ok done) es = es
accepted_if (Err refusal) es = []

-- a copy's state and its own output after the calls, and the entries accepted. Each step is what the call's contract
-- promises. Every call is lent that output, but one refused for the output's length may have been lent another.
pub data Log (services : Services) : State → List ℕ → List Entry → Type 0 where
  open_done : {s : State} {out : List ℕ} {es : List Entry} (direction device : ℕ)
      → opened direction device (length out) ≡ Ok s → es ≡ [] → Log services s out es
  add : {s s' : State} {out out' : List ℕ} {es es' : List Entry} → Log services s out es
      → (a : Addition) (r : Result (Unit {0}) Refusal) → Typed a → Adds services s out a r s' out'
      → es' ≡ es ++ accepted_if r (entry_of s.stream a ∷ []) → Log services s' out' es'
  take_packet : {s s' : State} {out out' : List ℕ} {es es' : List Entry} → Log services s out es
      → (packet : List ℕ) (r : Result (Unit {0}) Refusal) → Bytes packet → Takes services s out packet r s' out'
      → es' ≡ es ++ accepted_if r (entries_in services s packet) → Log services s' out' es'
  close_refused : {s : State} {out out' : List ℕ} {es : List Entry} → Log services s out es
      → (refusal : Refusal) → Closes s out (Err refusal) out' → Log services s out' es
  add_elsewhere : {s s' : State} {out : List ℕ} {es : List Entry} → Log services s out es
      → (a : Addition) (other other' : List ℕ) → Adds services s other a (Err OutputLength) s' other' → Log services s' out es
  take_elsewhere : {s s' : State} {out : List ℕ} {es : List Entry} → Log services s out es
      → (packet other other' : List ℕ) → Takes services s other packet (Err OutputLength) s' other' → Log services s' out es
  close_elsewhere : {s : State} {out : List ℕ} {es : List Entry} → Log services s out es
      → (other other' : List ℕ) → Closes s other (Err OutputLength) other' → Log services s out es

-- a closed copy: its bytes are the canonical copy of the entries accepted, and it answers their number and that of its packets
pub record Faithful (services : Services) (s : State) (es : List Entry) (c : Closed) (out : List ℕ) : Type 0 where
  pub bytes : take c.bytes out ≡ image services s.stream es
  pub size : c.bytes ≡ length (image services s.stream es)
  pub entries : c.entries ≡ length es
  pub packets : c.packets ≡ length (packets_of services s.stream es)
