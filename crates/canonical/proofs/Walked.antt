-- One entry of a packet further. Assumes nothing.
use Rattle.std.proofs.Common.{◌≡◌, true, ◌∷◌, is_ok, Ok, Err, sym, refl, ap, ◌∙◌}
use Rattle.records.specs.Services.{Services}
use Rattle.tecmp.specs.Entries.{Entries, before}
use Rattle.tecmp.specs.Reading.{Entry}
use Rattle.canonical.specs.Calls.{listed}
use Rattle.canonical.specs.declared.state.Extent.{Extent}
use Rattle.canonical.specs.States.{after}
use Rattle.canonical.specs.Surveys.{surveyed}

pub surveyed_more : (services : Services) (x : Extent) (e : Entry) (r : Entries) → surveyed services x (before e r) ≡ surveyed services (after services x e) r
surveyed_more services x e (Ok es) = refl
surveyed_more services x e (Err refusal) = refl

-- where all can be read, so can those after the first
pub listed_more : (e : Entry) (all r : Entries) → all ≡ before e r → is_ok all ≡ true → (is_ok r ≡ true) × (listed all ≡ e ∷ listed r)
listed_more e all (Ok es) q h = (refl, ap listed q)
listed_more e all (Err refusal) q h = absurd (let z = sym (ap is_ok q) ∙ h in cc)
