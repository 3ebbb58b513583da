-- `walk`: it stays where the check or the mode refuses, and else the steps are the model's.
use Rattle.std.proofs.Common.{ap, not, ◌∙◌, ◌≡◌}
use denote.Enum.Bare.{sameb}
use Rattle.model.specs.contracts.Answer as of-answer
use Rattle.model.specs.declared.Answer.{Answer}
use Rattle.model.specs.declared.Answer.TheVariants.{Done}
use Rattle.std.specs.Prelude.{Bool}
use Rattle.creamtally.proofs.Answers.{told_done, told_refused}
use Rattle.creamtally.proofs.Walks.{can_begin, left_within, walk_goes, walk_still}
use Rattle.creamtally.proofs.walk.Goals as goal

-- what is compared is the answer that the mode leaves
compared : (due : Answer) {told : Answer} {differs : Bool} → told ≡ due → differs ≡ not (sameb of-answer.the_type told Done)
    → differs ≡ not (sameb of-answer.the_type due Done)
compared due e f = f ∙ ap (λ (a : Answer). not (sameb of-answer.the_type a Done)) e

pub returns-then-ne : goal.returns-then-ne
returns-then-ne c =
    walk_still c.args.to_call c.args.machine c.args.mem.now c.args.budget _ c.check-answer.ensures
    (told_refused _ (compared _ c.then_mode.ensures c.ne.ensures) c.if-ne.true)

pub advance-left-requires : goal.advance-left-requires
advance-left-requires c =
    can_begin _ _ c.check-answer.ensures
    (told_done _ (compared _ c.then_mode.ensures c.ne.ensures) c.if-ne.false)

pub overflow_sub-result : goal.overflow_sub-result
overflow_sub-result c = left_within _ _ _ c.advance-left.ensures

pub returns : goal.returns
returns c =
    walk_goes c.args.to_call c.args.machine c.args.mem.now c.args.budget _ c.check-answer.ensures
    (told_done _ (compared _ c.then_mode.ensures c.ne.ensures) c.if-ne.false)
    c.advance-left.ensures
