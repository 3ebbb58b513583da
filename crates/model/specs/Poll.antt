-- The call Poll: the caller takes its waiting message.
use Rattle.std.specs.Prelude.{not, List, Option, None}
use Rattle.model.specs.declared.Message.{Message}
use Rattle.model.specs.declared.VmId.{VmId}
use Rattle.model.specs.declared.Registers.{Registers}
use Rattle.model.specs.declared.Machine.{Machine}
use Rattle.model.specs.Constants.{SEND, NO_DATA}
use Rattle.model.specs.State.{State, state, written, with_registers, with_inbox, with_inboxes, own_inbox, is_empty, length_of, sender_of}
use Rattle.model.specs.Reply.{Verdict, passes, need, answer}

unfoldable pub poll_verdict : Machine → Verdict
poll_verdict m = need (not (is_empty (own_inbox m))) NO_DATA passes

-- the registers say that a message came, from whom and how long
unfoldable pub noted : List Registers → VmId → Option Message → List Registers
noted files g inbox = written (written (written files g 0 SEND) g 1 (sender_of inbox).0) g 2 (length_of inbox)

-- the caller knows, and its inbox is empty again
unfoldable pub polled : Machine → Machine
polled m =
    with_inboxes
    (with_registers m (noted m.registers m.current (own_inbox m)))
    (with_inbox m.inboxes m.current None)

unfoldable pub poll_effect : State → State
poll_effect s = answer (poll_verdict s.machine) s (state (polled s.machine) s.memory)
