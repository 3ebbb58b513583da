-- The page records of a sound machine always pass the test of a handle call.
use Rattle.std.specs.Prelude.{Option, None, Some}
use Prim.Native.Nat.{◌<◌}
use mathlib.Core.Path.{◌≡◌, refl}
use mathlib.Core.Bool.{Bool, true, false}
use lib.Dec.{ltb}
use borrow.Author.Tests.{ltb-true}
use Rattle.model.specs.declared.Handle.{Handle}
use Rattle.model.specs.declared.Deal.{Deal}
use Rattle.model.specs.declared.Machine.{Machine}
use Rattle.model.specs.Constants.{HANDLES}
use Rattle.model.specs.State.{handle, transaction_at}
use Rattle.model.specs.Sound.{Sound}
use Rattle.model.specs.Reply.{need}
use Rattle.model.specs.HandleCall.{found_in, lookup, in_place, handle_verdict}
use Rattle.model.specs.NoAborted.{short_verdict, NoAborted}
use Rattle.model.proofs.Tests.{at_every}
use Rattle.model.proofs.Same.{eq_same_record}
use Rattle.model.proofs.Due.{at_held, page_row}

-- each page of a live transaction has its row
always_in_place : (m : Machine) → Sound m → (h : Handle) (d : Deal) → h.0 < HANDLES
    → (transaction_at m.transactions h).deal ≡ Some d → in_place m h d ≡ true
unfolding in_place
always_in_place m sound h d b live =
    at_every _ _ (λ i c. eq_same_record (page_row m sound h d _ b live (at_held _ i c)))

pub no_aborted : NoAborted
unfolding lookup found_in handle_verdict short_verdict need
no_aborted m sound may mark w = word (ltb w HANDLES) refl
  where
    found : (l : Option Deal) → (transaction_at m.transactions (handle w)).deal ≡ l → w < HANDLES
        → handle_verdict may mark m (found_in (handle w) l) ≡ short_verdict may mark m (found_in (handle w) l)
    found None q b = refl
    found (Some d) q b = rw (always_in_place m sound (handle w) d b q)

    word : (t : Bool) → ltb w HANDLES ≡ t
        → handle_verdict may mark m (lookup m.transactions w) ≡ short_verdict may mark m (lookup m.transactions w)
    word true q = rw q (found _ refl (ltb-true w HANDLES q))
    word false q = rw q
