-- The call Yield: a secondary hands over to guest 0.
use Rattle.model.specs.Constants.{YIELD}
use Rattle.model.specs.State.{State, state}
use Rattle.model.specs.Reply.{succeeded, handed_over}

unfoldable pub yield_effect : State → State
yield_effect s = state (handed_over (succeeded s.machine) YIELD) s.memory
