-- The call Send: words of the caller's TX page go to another guest's RX page.
use Rattle.model.specs.State.{message, State, state, vm, primary, written, mailbox_at, inbox_at, is_empty, argument, with_inbox, with_inboxes}
use Rattle.std.specs.Prelude.{ℕ, List, leb, Some}
use Rattle.std.proofs.Math.Seq.{paste}
use Rattle.isa.specs.Tests.{◌and◌}
use Rattle.model.specs.declared.VmId.{VmId}
use Rattle.model.specs.declared.Machine.{Machine}
use Rattle.model.specs.Constants.{PAGE, SEND, INVALID, BUSY}
use Rattle.model.specs.Memory.{base_of, tx_words}
use Rattle.model.specs.Reply.{Verdict, passes, need, answer, succeeded, told, woken, is_other}

-- the receiver and the length, as the caller names them
unfoldable pub send_to : Machine → VmId
send_to m = vm (argument m 1)

unfoldable pub send_length : Machine → ℕ
send_length m = argument m 2

-- where the message goes: the first word of the receiver's RX page
unfoldable pub send_base : Machine → ℕ
send_base m = base_of (mailbox_at m.mailboxes (send_to m)).rx

unfoldable pub send_verdict : Machine → Verdict
send_verdict m =
    need (is_other m (argument m 1)) INVALID
    (need (leb 1 (send_length m) and leb (send_length m) PAGE) INVALID
    (need (is_empty (inbox_at m.inboxes (send_to m))) BUSY passes))

-- guest 0 also learns for whom the message is
unfoldable pub notified : Machine → VmId → Machine
notified m receiver = woken m (written (told m.registers SEND m.current) primary 2 receiver.0)

-- the receiver's inbox says how long the message is, and from whom
abbrev pub delivered_to : Machine → VmId → ℕ → Machine
delivered_to m receiver length = with_inboxes m (with_inbox m.inboxes receiver (Some (message length m.current)))

unfoldable pub delivered : Machine → Machine
delivered m = delivered_to m (send_to m) (send_length m)

-- the first words of TX, over those of the receiver's RX page; the rest stays
unfoldable pub copied : State → List ℕ
copied s = paste s.memory (send_base s.machine) (tx_words s) (send_length s.machine)

unfoldable pub send_effect : State → State
send_effect s =
    answer (send_verdict s.machine) s
    (state (notified (succeeded (delivered s.machine)) (send_to s.machine)) (copied s))
