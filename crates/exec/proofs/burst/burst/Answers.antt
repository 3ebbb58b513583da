-- A turn of the loop is one step of the burst, and what stopped the guest ends it.
use Rattle.std.proofs.Common.{arith, sym, ◌∙◌, true≢false}
use Rattle.exec.proofs.Turns.{burst_more, burst_stops, burst_spent}
use Rattle.exec.proofs.burst.burst.Goals as goal
use Rattle.exec.proofs.burst.burst.Goals.{in-Moved, in_default}

pub returns-then-not-matches : goal.returns-then-not-matches
returns-then-not-matches c =
    elim c.match-matches.branch [
      | in-Moved w ↦ absurd (true≢false (sym w.matches-is ∙ c.if-not-matches.true))
      | in_default w ↦
          burst_stops _ c.loop-left.left _ _ c.loop-left-test.true c.one-stop.ensures w.in_default.not-Moved ∙ c.loop-left.invariant.1
    ]

pub loop-left-preserved : goal.loop-left-preserved
loop-left-preserved c =
    elim c.match-matches.branch [
      | in-Moved w ↦ (
        omega arith,
        burst_more _ c.loop-left.left _ _ c.loop-left-test.true c.one-stop.ensures w.in-Moved.is ∙ c.loop-left.invariant.1,
      )
      | in_default w ↦ absurd (true≢false (sym c.if-not-matches.false ∙ w.matches-is))
    ]

pub returns : goal.returns
returns c = burst_spent _ _ _ _ c.loop-left-test.false ∙ c.loop-left.invariant.1
