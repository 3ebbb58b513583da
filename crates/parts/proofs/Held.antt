-- The pages that a transaction holds, as they stand in the part of its places that is lent.
use Prim.Native.Nat.{ℕ, ◌<◌}
use mathlib.Core.Path.{◌≡◌}
use mathlib.Core.List.{List}
use native.Mathlib.Omega.{arith}
use lib.ListN.{length, take, get_or}
use lib.Seq.{get_or-take}
use Rattle.model.specs.declared.PageId.{PageId}
use Rattle.model.specs.declared.Transaction.{Transaction}
use Rattle.model.specs.Constants.{PAGES}
use Rattle.model.specs.State.{page, page_at, count_of}
use Rattle.parts.specs.Reached.{Reached}

pub held_at :
    {held : List PageId} (t : Transaction) (k : ℕ) → (length held ≡ count_of t) × (held ≡ take (count_of t) t.pages) →
    k < length held → get_or held k (page 0) ≡ page_at t k
unfolding page_at
held_at t k (long, is) b = rw is (get_or-take (count_of t) t.pages k (page 0) (omega arith))

pub held_reached :
    {held : List PageId} (t : Transaction) (k : ℕ) → Reached t → (length held ≡ count_of t) × (held ≡ take (count_of t) t.pages) →
    k < length held → (get_or held k (page 0)).0 < PAGES
held_reached t k fits is b = rw (held_at t k is b) (fits.below k (omega (arith, is.0)))
