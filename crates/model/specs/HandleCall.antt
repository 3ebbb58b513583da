-- The calls on a handle: they look up their transaction first, and go through one chain of tests.
use Rattle.std.specs.Prelude.{ℕ, Bool, cond, List, ltb, Option, None, Some}
use Rattle.model.specs.declared.VmId.{VmId}
use Rattle.model.specs.declared.Handle.{Handle}
use Rattle.model.specs.declared.Deal.{Deal}
use Rattle.model.specs.declared.Transaction.{Transaction}
use Rattle.model.specs.declared.Machine.{Machine}
use Rattle.model.specs.Constants.{HANDLES, INVALID, DENIED, ABORTED}
use Rattle.model.specs.Tests.{agree, every}
use Rattle.model.specs.State.{State, state, handle, record_at, transaction_at, page_at, count_of, argument}
use Rattle.model.specs.Row.{row, same_record}
use Rattle.model.specs.Reply.{Verdict, passes, refused, need, answer, succeeded}

-- Looking up.

unfoldable pub found_in : Handle → Option Deal → Option (Handle × Deal)
found_in h None = None
found_in h (Some d) = Some (h, d)

-- what a handle word finds; a word above 15 finds nothing
unfoldable pub lookup : List Transaction → ℕ → Option (Handle × Deal)
lookup transactions w =
    cond (ltb w HANDLES) (found_in (handle w) (transaction_at transactions (handle w)).deal) None

-- The tests: that the caller is the party which may, that the retrieved mark is as it must be, and that each page has
-- its transaction's row.

unfoldable pub in_place : Machine → Handle → Deal → Bool
in_place m h d =
    every
    (count_of (transaction_at m.transactions h))
    (λ i. same_record (record_at m.records (page_at (transaction_at m.transactions h) i)) (row d))

unfoldable pub handle_verdict : (Deal → VmId → Bool) → Bool → Machine → Option (Handle × Deal) → Verdict
handle_verdict may mark m None = refused INVALID
handle_verdict may mark m (Some (h, d)) =
    need (may d m.current) DENIED (need (agree d.retrieved mark) DENIED (need (in_place m h d) ABORTED passes))

-- The effect.

unfoldable pub applied : (Machine → Handle → Deal → Machine) → Machine → Option (Handle × Deal) → Machine
applied deed m None = m
applied deed m (Some (h, d)) = deed m h d

-- the handle word in R1
unfoldable pub own_found : Machine → Option (Handle × Deal)
own_found m = lookup m.transactions (argument m 1)

unfoldable pub handle_effect : (Deal → VmId → Bool) → Bool → (Machine → Handle → Deal → Machine) → State → State
handle_effect may mark deed s =
    answer
    (handle_verdict may mark s.machine (own_found s.machine))
    s
    (state (succeeded (applied deed s.machine (own_found s.machine))) s.memory)
