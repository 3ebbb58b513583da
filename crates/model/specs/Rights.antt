-- The access check: one for fetch, load and store.
use Rattle.std.specs.Prelude.{ℕ, ◌/◌, cond, List, length, ltb}
use Rattle.model.specs.declared.VmId.{VmId}
use Rattle.model.specs.declared.PageId.{PageId}
use Rattle.model.specs.declared.PageRecord.{PageRecord}
use Rattle.model.specs.declared.Machine.{Machine}
use Rattle.model.specs.declared.Access.{Access}
use Rattle.model.specs.declared.Access.TheVariants.{Allowed, Outside, NoAccess, OwnMailbox}
use Rattle.model.specs.Constants.{PAGE}
use Rattle.model.specs.VmSet.{has}
use Rattle.model.specs.State.{page, same_page, record_at, own_mailbox}

-- guest g at page p, on a side of its mailbox that is forbidden to it
unfoldable pub right : List PageRecord → VmId → PageId → PageId → Access
right records g forbidden p =
    cond (has g (record_at records p).access) (cond (same_page p forbidden) OwnMailbox Allowed) NoAccess

-- what the current guest may do with each page: fetch and load, but not from its own TX page; store, but not to its
-- own RX page
pub record Rights : Type 0 where
  pub loads : PageId → Access
  pub stores : PageId → Access

unfoldable pub rights : Machine → Rights
rights m =
    record {
      loads = right m.records m.current (own_mailbox m).tx;
      stores = right m.records m.current (own_mailbox m).rx;
    }

-- the page of an address
abbrev pub page_of : ℕ → PageId
page_of x = page (x / PAGE)

-- an address must lie inside memory, and then its page be allowed
unfoldable pub access : (PageId → Access) → List ℕ → ℕ → Access
access allowed memory x = cond (ltb x (length memory)) (allowed (page_of x)) Outside
