-- On a sound machine the calls on a handle never answer ABORTED: the test of the page records can be left out. Proved in
-- `proofs/NoAborted.antt`.
use Rattle.std.specs.Prelude.{◌≡◌, Bool, ℕ, Option, None, Some}
use Rattle.model.specs.declared.Handle.{Handle}
use Rattle.model.specs.declared.VmId.{VmId}
use Rattle.model.specs.declared.Deal.{Deal}
use Rattle.model.specs.declared.Machine.{Machine}
use Rattle.model.specs.Constants.{INVALID, DENIED}
use Rattle.model.specs.Tests.{agree}
use Rattle.model.specs.Sound.{Sound}
use Rattle.model.specs.Reply.{Verdict, passes, refused, need}
use Rattle.model.specs.HandleCall.{lookup, handle_verdict}

-- the chain of tests without that of the records
unfoldable pub short_verdict : (Deal → VmId → Bool) → Bool → Machine → Option (Handle × Deal) → Verdict
short_verdict may mark m None = refused INVALID
short_verdict may mark m (Some (h, d)) = need (may d m.current) DENIED (need (agree d.retrieved mark) DENIED passes)

-- for Retrieve, Relinquish and Reclaim alike, and whatever the handle word
abbrev pub NoAborted : Type 0
NoAborted =
    (m : Machine) → Sound m → (may : Deal → VmId → Bool) (mark : Bool) (w : ℕ)
    → handle_verdict may mark m (lookup m.transactions w) ≡ short_verdict may mark m (lookup m.transactions w)
