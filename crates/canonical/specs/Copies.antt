-- What opening and judging answer.
use Rattle.std.specs.Prelude.{◌≡◌, ℕ, ◌+◌, ◌≤◌, true, List, is_ok, Some, Ok, Err, Result}
use Rattle.records.specs.Services.{Services}
use Rattle.records.specs.declared.refusal.Refusal.{Refusal}
use Rattle.tecmp.specs.Entries.{entries}
use Rattle.tecmp.specs.Packets.{packet_entries}
use Rattle.tecmp.specs.declared.packet.Packet.{Packet}
use Rattle.canonical.specs.Calls.{listed, Closes}
use Rattle.canonical.specs.Law.{AnyLog}
use Rattle.canonical.specs.States.{after_all}
use Rattle.canonical.specs.declared.copy.CanonicalCopy.{CanonicalCopy}
use Rattle.canonical.specs.declared.state.Closed.{Closed}
use Rattle.canonical.specs.declared.state.State.{State}

-- a copy with this state over this registry, or the refusal
abbrev pub Opened : {R : Type 0} → R → Result State Refusal → Result (CanonicalCopy R) Refusal → Type 0
Opened registry answer (Ok copy) = (answer ≡ Ok copy.state) × (copy.registry.now ≡ registry)
Opened registry answer (Err refusal) = answer ≡ Err refusal

-- the answer without its value
abbrev pub emptied : {A : Type 0} → Result A Refusal → Result (Unit {0}) Refusal
emptied (Ok x) = Ok tt
emptied (Err refusal) = Err refusal

-- a packet that may be taken: what it holds is what the rule reads, and fits
pub record Taken {R : Type 0} (services : R → Services) (copy : CanonicalCopy R) (packet : Packet R) (bytes : List ℕ) : Type 0 where
  pub by : packet.registry.now ≡ copy.registry.now
  pub read : packet_entries services packet 12 ≡ entries (services copy.registry.now) (Some copy.state.stream) bytes
  pub whole : is_ok (packet_entries services packet 12) ≡ true
  pub fits : (after_all (services copy.registry.now) copy.state.extent (listed (packet_entries services packet 12))).length + 4 ≤ copy.state.capacity

-- closed: what closing answers and writes, and, whatever calls led here, what the bytes then are; or refused, and the copy back
abbrev pub ClosedWith : {R : Type 0} → Services → CanonicalCopy R → List ℕ → List ℕ → Result Closed (Refusal × CanonicalCopy R) → Type 0
ClosedWith services copy out out' (Ok c) = Closes copy.state out (Ok c) out' × AnyLog services copy.state out c out'
ClosedWith services copy out out' (Err back) = Closes copy.state out (Err back.0) out' × (back.1 ≡ copy)
