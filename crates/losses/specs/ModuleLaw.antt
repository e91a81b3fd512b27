-- A module's row goes on as its packets tell.
use Rattle.std.specs.Prelude.{◌≡◌, ℕ, ◌+◌, List, [], ◌∷◌, ◌++◌, length, refl}
use Rattle.std.proofs.Common.{arith, length-append, ap, ◌∙◌, sym}
use Rattle.std.proofs.lemmas.List.{map-append}
use Rattle.losses.specs.declared.module_row.PacketNoted.{PacketNoted}
use Rattle.losses.specs.Rows.{GoesOn}
use Rattle.losses.specs.Totals.{total, total-total}
use Rattle.losses.specs.Modules.{gap, repeat, last, gaps, repeats, counters, module_row, after_packet}

last-push : (c : ℕ) (cs : List ℕ) (d : ℕ) → last c (cs ++ d ∷ []) ≡ d
last-push c [] d = refl
last-push c (e ∷ cs) d = last-push e cs d

gaps-push : (c : ℕ) (cs : List ℕ) (d : ℕ) → gaps c (cs ++ d ∷ []) ≡ gaps c cs + gap (last c cs) d
gaps-push c [] d = omega arith
gaps-push c (e ∷ cs) d = omega (arith, gaps-push e cs d)

repeats-push : (c : ℕ) (cs : List ℕ) (d : ℕ) → repeats c (cs ++ d ∷ []) ≡ repeats c cs + repeat (last c cs) d
repeats-push c [] d = omega arith
repeats-push c (e ∷ cs) d = omega (arith, repeats-push e cs d)

module_one_more : (p : PacketNoted) (ps : List PacketNoted) (q : PacketNoted) → after_packet (module_row p ps) q ≡ module_row p (ps ++ q ∷ [])
module_one_more p ps q =
    let c = p.counter in
    let cs = counters ps in
    let more : counters (ps ++ q ∷ []) ≡ cs ++ q.counter ∷ [] = map-append (λ x. x.counter) ps (q ∷ []) in
    let packets : total (total (length (p ∷ ps)) + 1) ≡ total (length (p ∷ ps ++ q ∷ [])) =
    total-total (length (p ∷ ps)) 1 ∙ ap total (omega (arith, length-append ps (q ∷ []))) in
    let last_counter : q.counter ≡ last c (counters (ps ++ q ∷ [])) = sym (ap (last c) more ∙ last-push c cs q.counter) in
    let repeated : total (total (repeats c cs) + repeat (last c cs) q.counter) ≡ total (repeats c (counters (ps ++ q ∷ []))) =
    total-total (repeats c cs) (repeat (last c cs) q.counter) ∙ ap total (sym (ap (repeats c) more ∙ repeats-push c cs q.counter)) in
    let lost : total (total (gaps c cs) + gap (last c cs) q.counter) ≡ total (gaps c (counters (ps ++ q ∷ []))) =
    total-total (gaps c cs) (gap (last c cs) q.counter) ∙ ap total (sym (ap (gaps c) more ∙ gaps-push c cs q.counter)) in
    rw (packets, ← last_counter, repeated, lost)

pub module_goes_on : GoesOn (λ r. r.device) module_row after_packet
module_goes_on = record { same_key = λ r n. refl; one_more = module_one_more }
