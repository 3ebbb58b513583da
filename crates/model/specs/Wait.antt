-- The call Wait: as Poll where a message waits; else a secondary hands over to guest 0.
use Rattle.std.specs.Prelude.{cond, not}
use Rattle.model.specs.declared.Machine.{Machine}
use Rattle.model.specs.Constants.{WAIT, NO_DATA}
use Rattle.model.specs.State.{State, state, is_primary, own_inbox, is_empty}
use Rattle.model.specs.Reply.{Verdict, passes, need, answer, succeeded, handed_over}
use Rattle.model.specs.Poll.{poll_effect}

-- with no message waiting
unfoldable pub wait_verdict : Machine → Verdict
wait_verdict m = need (not (is_primary m.current)) NO_DATA passes

unfoldable pub wait_effect : State → State
wait_effect s =
    cond
    (is_empty (own_inbox s.machine))
    (answer (wait_verdict s.machine) s (state (handed_over (succeeded s.machine) WAIT) s.memory))
    (poll_effect s)
