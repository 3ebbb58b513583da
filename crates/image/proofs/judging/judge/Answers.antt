-- It begins; nothing is cut, what is cut says nothing, or it may not stand; or the image has come to its end.
use Rattle.std.proofs.Common.{rules, sym, ◌∙◌}
use Rattle.image.proofs.Reading.{may_stand_fits}
use Rattle.image.proofs.Turns.{had, judging_begins, judging_ends, judging_refuses, judging_silent, judging_stops, lacked}
use Rattle.image.proofs.judging.judge.Goals as goal

pub loop-at-init : goal.loop-at-init
loop-at-init c = judging_begins _ c.begun-draft.ensures

-- nothing is cut
pub returns-in_err-whole : goal.returns-in_err-whole
returns-in_err-whole c =
    lacked _ _ c.ok_or.ensures.value c.in_err-whole.was (search rules)
    (judging_stops c.loop-at.invariant c.loop-at-test.true c.cut_image.ensures)

-- what is cut says nothing
pub returns-in_err-content : goal.returns-in_err-content
returns-in_err-content c =
    lacked _ _ c.ok_or-in-loop-at.ensures.value c.in_err-content.was (search rules)
    (judging_silent
    c.loop-at.invariant
    c.loop-at-test.true
    c.cut_image.ensures
    (had c.ok_or.ensures.ok_part c.in_ok-whole.was)
    c.content_of.ensures)

-- it may not stand
pub returns-then-not-may_stand : goal.returns-then-not-may_stand
returns-then-not-may_stand c =
    judging_refuses
    c.loop-at.invariant
    c.loop-at-test.true
    c.cut_image.ensures
    (had c.ok_or.ensures.ok_part c.in_ok-whole.was)
    c.content_of.ensures
    (had c.ok_or-in-loop-at.ensures.ok_part c.in_ok-content.was)
    c.may_stand.ensures
    c.if-not-may_stand.true

pub take-requires : goal.take-requires
take-requires c = (
  c.loop-at.invariant.ranged,
  may_stand_fits _ _ _ (sym c.may_stand.ensures ∙ c.if-not-may_stand.false),
)

pub returns : goal.returns
returns c = judging_ends c.loop-at.invariant c.loop-at-test.false c.at_end.ensures
