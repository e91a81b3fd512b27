use Rattle.std.proofs.Common.{◌≡◌, ℕ, ◌^◌, ◌<◌, ◌≤◌, List, length, is_ok, Ok, Err, Result, IfOk, sym, ap, arith}
use Rattle.std.proofs.ByRecursion.{All-from_get_or}
use Rattle.records.proofs.Served.{canonical_by_lem, checked-length}
use Rattle.records.specs.Services.{Service, LawfulService, checked_by, canonical_by}
use Rattle.records.specs.Verdicts.{Bytes}
use Rattle.records.specs.declared.refusal.LookupRefusal.{LookupRefusal}
use Rattle.records.specs.declared.refusal.RecordRefusal.{RecordRefusal}
use Rattle.canonical.proofs.entry.check_record.Goals as goal

measured : (v : Service) (f : ℕ) (d : List ℕ) (r : Result ℕ (LookupRefusal RecordRefusal)) → LawfulService v → f < 2 ^ 16 → Bytes d → r ≡ checked_by v f d
    → IfOk r (λ n. (n ≡ length (canonical_by v f d)) × ((1 ≤ n) × (n ≤ 1472)))
measured v f d (Ok n) law lf bd e =
    let is = checked-length v f d n e in
    let l = canonical_by_lem v law f d lf bd (sym (ap is_ok e)) in
    (is, (omega arith, omega arith))
measured v f d (Err refusal) law lf bd e = tt

pub returns : goal.returns
returns g c =
    let code = c.args.code in
    let bytes = All-from_get_or (λ x. x < 256) c.args.data.now 0 (λ i _. (c.type_inv.data i).fits) in
    record {
      is = c.check.ensures;
      lawful = measured (g.R.Registry.services c.args.registry.now code) c.args.flags c.args.data.now c.check.result (g.met.R.Registry.lawful c.args.registry.now code) c.ranges.flags.fits bytes c.check.ensures;
    }
