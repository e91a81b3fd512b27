-- What a module's row says: the packets noted of the module alone tell it.
use Rattle.std.specs.Prelude.{ℕ, ◌+◌, ◌-◌, ◌%◌, cond, List, [], ◌∷◌, length, map, ◌==◌}
use Rattle.losses.specs.Totals.{total}
use Rattle.losses.specs.declared.module_row.ModuleRow.{ModuleRow}
use Rattle.losses.specs.declared.module_row.PacketNoted.{PacketNoted}

-- the packets that are missing between a counter and the next: an equal one is a repeat
abbrev pub gap : ℕ → ℕ → ℕ
gap last new = cond (new == last) 0 ((new + 65535 - last) % 65536)

abbrev pub repeat : ℕ → ℕ → ℕ
repeat last new = cond (new == last) 1 0

-- of a counter and those after it: the last, the sum of the gaps, and the repeats
abbrev pub last : ℕ → List ℕ → ℕ
last c [] = c
last c (d ∷ ds) = last d ds

abbrev pub gaps : ℕ → List ℕ → ℕ
gaps c [] = 0
gaps c (d ∷ ds) = gap c d + gaps d ds

abbrev pub repeats : ℕ → List ℕ → ℕ
repeats c [] = 0
repeats c (d ∷ ds) = repeat c d + repeats d ds

abbrev pub counters : List PacketNoted → List ℕ
counters ps = map (λ p. p.counter) ps

abbrev pub module_row : PacketNoted → List PacketNoted → ModuleRow
module_row p ps = record {
  device = p.device;
  packets = total (length (p ∷ ps));
  last_counter = last p.counter (counters ps);
  repeats = total (repeats p.counter (counters ps));
  lost = total (gaps p.counter (counters ps));
}

-- any row after one more packet
abbrev pub after_packet : ModuleRow → PacketNoted → ModuleRow
after_packet r p = record {
  device = r.device;
  packets = total (r.packets + 1);
  last_counter = p.counter;
  repeats = total (r.repeats + repeat r.last_counter p.counter);
  lost = total (r.lost + gap r.last_counter p.counter);
}
