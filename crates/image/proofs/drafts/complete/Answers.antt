-- Every guest is asked.
use Rattle.std.proofs.Common.{arith, rules, refl, ◌∙◌}
use borrow.Author.Tests.{tests}
use Rattle.std.specs.Prelude.{ℕ, Bool}
use Rattle.std.proofs.lemmas.Iterator.{YieldsList-from_range}
use Rattle.std.proofs.lemmas.Iterator.Search.{all_from_yields_List}
use Rattle.model.specs.State.{vm}
use Rattle.model.specs.declared.VmSet.{VmSet}
use Rattle.model.specs.VmSet.{has}
use Rattle.image.specs.Drafts.{complete}
use Rattle.image.proofs.Reading.{every_ranged}
use Rattle.image.proofs.drafts.complete.Goals as goal

abbrev is_described : VmSet → ℕ → Bool
is_described described g = has (vm g) described

pub returns : goal.returns
unfolding complete
returns c =
    all_from_yields_List (is_described c.args.described) _ _ _ c.all.ensures.ran
    (YieldsList-from_range 0 c.args.n c.args.n refl (omega arith))
    (λ x b q k. search (rules, tests))
    ∙ every_ranged c.args.n (is_described c.args.described)
