-- The image is broken at its end if no budget was read, and good if one was.
use Rattle.std.proofs.Common.{rules}
use Rattle.image.proofs.Turns.{end_early, end_good, had, lacked}
use Rattle.image.proofs.judging.at_end.Goals as goal

pub returns-in_err-budget : goal.returns-in_err-budget
returns-in_err-budget c =
    lacked _ _ c.ok_or.ensures.value c.in_err-budget.was (search rules) (end_early _ _)

pub returns : goal.returns
returns c = end_good _ _ (had c.ok_or.ensures.ok_part c.in_ok-budget.was)
