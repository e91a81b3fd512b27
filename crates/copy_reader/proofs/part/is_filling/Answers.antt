use Rattle.std.proofs.Common.{◌∙◌, ◌==◌, ◌&&◌, rules, refl}
use borrow.Author.Tests.{tests}
use Rattle.std.specs.List.{list_all}
use Rattle.std.proofs.lemmas.Iterator.{YieldsList-from_slice}
use Rattle.std.proofs.lemmas.Iterator.Search.{all_from_yields_List}
use Rattle.std.proofs.lemmas.List.Recursion.{same_from_clauses}
use Rattle.tecmp.specs.Layout.{zeros}
use Rattle.copy_reader.proofs.part.is_filling.Goals as goal

pub returns : goal.returns
returns c =
    let bytes = c.args.bytes.now in
    all_from_yields_List (λ b. b == 0) _ _ c.all.result c.all.ensures.ran (YieldsList-from_slice bytes cc) (λ x b q k. search (rules, tests))
    ∙ same_from_clauses (list_all (λ b. b == 0)) zeros (λ b rest. b == 0 && rest) refl (λ _ _. refl) (λ _ _. refl) bytes
