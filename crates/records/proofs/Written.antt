-- What `write` answers, from what `check` does. Assumes nothing.
use Rattle.std.proofs.Common.{◌≡◌, ℕ, eqb, length, Ok, Err, sym, ap, ◌∙◌}
use Prim.{⊥}
use Rattle.std.proofs.lemmas.Bool.{eq-eqb, ne_eqb, cond-true, cond-false}
use Rattle.records.specs.Verdicts.{Verdict, refuses, accepts, checked, written, canonical_flags}
use Rattle.records.specs.declared.refusal.RecordRefusal.{RecordRefusal}
use Rattle.records.specs.declared.refusal.WriteRefusal.TheVariants.{Record, PartLength}

pub written_refused : (v : Verdict) (w : RecordRefusal) (room : ℕ) → Err w ≡ checked v → Err (Record w) ≡ written v room
written_refused (refuses w') w room e = let same : w ≡ w' = cc in ap (λ x. Err (Record x)) same
written_refused (accepts s f d) w room e = cc

pub written_short : (v : Verdict) (n room : ℕ) → Ok n ≡ checked v → (n ≡ room → ⊥) → Err PartLength ≡ written v room
written_short (refuses w) n room e h = cc
written_short (accepts s f d) n room e h =
    let same : length d ≡ n = cc in
    sym (cond-false (eqb room (length d)) _ _ (ne_eqb room (length d) (λ q. h (sym (q ∙ same)))))

pub written_all : (v : Verdict) (n room : ℕ) → Ok n ≡ checked v → room ≡ n → Ok (canonical_flags v) ≡ written v room
written_all (refuses w) n room e h = cc
written_all (accepts s f d) n room e h =
    let same : n ≡ length d = cc in
    sym (cond-true (eqb room (length d)) _ _ (eq-eqb room (length d) (h ∙ same)))
