-- The call Run: guest 0 makes another guest current.
use Rattle.std.specs.Prelude.{ltb, leb}
use Rattle.isa.specs.Tests.{◌and◌}
use Rattle.model.specs.declared.Machine.{Machine}
use Rattle.model.specs.Constants.{DENIED, INVALID}
use Rattle.model.specs.State.{State, state, vm, is_primary, argument, with_current}
use Rattle.model.specs.Reply.{Verdict, passes, need, answer}

unfoldable pub run_verdict : Machine → Verdict
run_verdict m =
    need (is_primary m.current) DENIED
    (need (leb 1 (argument m 1) and ltb (argument m 1) m.n) INVALID passes)

unfoldable pub run_effect : State → State
run_effect s =
    answer (run_verdict s.machine) s (state (with_current s.machine (vm (argument s.machine 1))) s.memory)
