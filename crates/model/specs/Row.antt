-- The table of page records: the record that is due to a page by what it is used for. Every question about a kind, and
-- who is a party of a transaction, is asked here and nowhere else.
use Rattle.std.specs.Prelude.{ℕ, Bool, true, false, cond, not, Option, None, Some}
use Rattle.isa.specs.Tests.{◌and◌}
use Rattle.model.specs.declared.VmId.{VmId}
use Rattle.model.specs.declared.VmSet.{VmSet}
use Rattle.model.specs.declared.PageRecord.{PageRecord}
use Rattle.model.specs.declared.Kind.{Kind}
use Rattle.model.specs.declared.Kind.TheVariants.{Donate, Lend, Share}
use Rattle.model.specs.declared.Deal.{Deal}
use Rattle.model.specs.Tests.{agree}
use Rattle.model.specs.VmSet.{none, only, with, same_set}
use Rattle.model.specs.State.{same_vm}

-- Kinds and parties.

-- the number of a kind in a descriptor
unfoldable pub kind_number : Kind → ℕ
kind_number Donate = 1
kind_number Lend = 2
kind_number Share = 3

unfoldable pub shares : Kind → Bool
shares Donate = false
shares Lend = false
shares Share = true

unfoldable pub donates : Kind → Bool
donates Donate = true
donates Lend = false
donates Share = false

unfoldable pub sends : Deal → VmId → Bool
sends d g = same_vm d.sender g

unfoldable pub receives : Deal → VmId → Bool
receives d g = same_vm d.receiver g

-- those to whom a transaction's pages have gone
unfoldable pub holders : Deal → VmSet
holders d = cond d.retrieved (only d.receiver) none

-- Rows.

abbrev pub page_record : Option VmId → VmSet → Bool → PageRecord
page_record owner access exclusive = record { owner = owner; access = access; exclusive = exclusive }

-- a mailbox page of guest g
unfoldable pub mailbox_row : VmId → PageRecord
mailbox_row g = page_record None (only g) true

-- a page in no transaction: its owner's, or spare
unfoldable pub free_row : Option VmId → PageRecord
free_row (Some g) = page_record (Some g) (only g) true
free_row None = page_record None none false

abbrev pub owned_row : VmId → PageRecord
owned_row g = free_row (Some g)

-- a page in a transaction: a share leaves the sender its access and takes the exclusive mark
unfoldable pub row : Deal → PageRecord
row d =
    page_record
    (Some d.sender)
    (cond (shares d.kind) (with d.sender (holders d)) (holders d))
    (not (shares d.kind))

-- Equality of records, as a test.

unfoldable pub same_owner : Option VmId → Option VmId → Bool
same_owner None None = true
same_owner None (Some k) = false
same_owner (Some g) None = false
same_owner (Some g) (Some k) = same_vm g k

unfoldable pub same_record : PageRecord → PageRecord → Bool
same_record a b =
    same_owner a.owner b.owner and same_set a.access b.access and agree a.exclusive b.exclusive
