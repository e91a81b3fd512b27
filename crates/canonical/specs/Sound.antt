-- What holds of every copy's numbers, whatever its output holds.
use Rattle.std.specs.Prelude.{◌≡◌, ℕ, ◌+◌, ◌*◌, ◌≤◌, Some, None, Option}
use Rattle.canonical.specs.States.{frame}
use Rattle.canonical.specs.declared.state.OpenPacket.{OpenPacket}
use Rattle.canonical.specs.declared.state.Extent.{Extent}

-- where the last packet ends, and its bytes; where there is none, what stands for them
abbrev pub end_of : ℕ → Option OpenPacket → ℕ
end_of start None = start
end_of start (Some p) = p.begins + frame p.size

abbrev pub size_of : Option OpenPacket → ℕ
size_of None = 0
size_of (Some p) = p.size

-- the copy ends after its last packet, which is within the limit; an entry takes 16 bytes and more, a packet an entry and more
pub record Counted (x : Extent) : Type 0 where
  pub ends : x.length ≡ end_of x.length x.last
  pub small : size_of x.last ≤ 1500
  pub few : 16 * x.entries ≤ x.length
  pub fewer : x.packets ≤ x.entries
