-- A guest's rights as maps of pages: bit p of a map says whether page p is allowed.
use Rattle.std.specs.Prelude.{ℕ, zero, suc, ◌+◌, ◌*◌, ◌/◌, ◌%◌, ◌^◌, Bool, true, false, cond, List, ◌==◌, nat_lt}
use Rattle.isa.specs.Tests.{◌and◌}
use Rattle.model.specs.declared.VmId.{VmId}
use Rattle.model.specs.declared.PageId.{PageId}
use Rattle.model.specs.declared.PageRecord.{PageRecord}
use Rattle.model.specs.declared.Access.{Access}
use Rattle.model.specs.declared.Access.TheVariants.{Allowed, Outside, NoAccess, OwnMailbox}
use Rattle.model.specs.State.{page}
use Rattle.model.specs.Rights.{Rights, right, page_of}

unfoldable pub bit_at : ℕ → ℕ → Bool
bit_at map p = map / 2 ^ p % 2 == 1

-- the access check: the address inside memory, and then the bit of its page
unfoldable pub may_reach : ℕ → ℕ → ℕ → Bool
may_reach map words x = nat_lt x words and bit_at map (page_of x).0

-- the rights that two maps stand for
unfoldable pub allowed_by : ℕ → PageId → Access
allowed_by map p = cond (bit_at map p.0) Allowed NoAccess

abbrev pub by_maps : ℕ → ℕ → Rights
by_maps loads stores = record { loads = allowed_by loads; stores = allowed_by stores }

-- a map with one page more in front of it
unfoldable pub with_page : ℕ → Bool → ℕ
with_page map allowed = map * 2 + cond allowed 1 0

-- the map of the pages below n that pass a test
unfoldable pub map_of : ℕ → (ℕ → Bool) → ℕ
map_of zero f = 0
map_of (suc n) f = with_page (map_of n (λ p. f (suc p))) (f 0)

unfoldable pub is_allowed : Access → Bool
is_allowed Allowed = true
is_allowed Outside = false
is_allowed NoAccess = false
is_allowed OwnMailbox = false

-- the pages below m that guest g may use, on a side of its mailbox that is forbidden to it
unfoldable pub pages_for : List PageRecord → ℕ → VmId → PageId → ℕ
pages_for records m g forbidden = map_of m (λ p. is_allowed (right records g forbidden (page p)))
