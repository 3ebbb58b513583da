-- The table of page records, row by row: owner, access, exclusive mark. Proved of the rows' one definition in
-- `proofs/Table.antt`, for any guests i and j.
use Rattle.std.specs.Prelude.{ℕ, ◌≡◌, Bool, true, false, Option, None, Some}
use Rattle.isa.specs.Tests.{◌or◌}
use Rattle.model.specs.declared.VmId.{VmId}
use Rattle.model.specs.declared.PageRecord.{PageRecord}
use Rattle.model.specs.declared.Kind.{Kind}
use Rattle.model.specs.declared.Kind.TheVariants.{Donate, Lend, Share}
use Rattle.model.specs.declared.Deal.{Deal}
use Rattle.model.specs.VmSet.{has}
use Rattle.model.specs.State.{same_vm}
use Rattle.model.specs.Row.{mailbox_row, owned_row, free_row, row}

-- a record has this owner, exactly the members with access, and this mark
pub record Row (r : PageRecord) (owner : Option VmId) (member : VmId → Bool) (exclusive : Bool) : Type 0 where
  pub has_owner : r.owner ≡ owner
  pub has_access : (g : VmId) → has g r.access ≡ member g
  pub has_mark : r.exclusive ≡ exclusive

-- pages sent by i to j
abbrev pub deal : VmId → VmId → Kind → Bool → ℕ → Deal
deal i j kind retrieved count =
    record { sender = i; receiver = j; kind = kind; retrieved = retrieved; count = count }

pub record Table (i j : VmId) (count : ℕ) : Type 0 where
  pub mailbox_page : Row (mailbox_row i) None (λ g. same_vm g i) true
  pub owned_page : Row (owned_row i) (Some i) (λ g. same_vm g i) true
  pub spare_page : Row (free_row None) None (λ g. false) false
  pub donated : Row (row (deal i j Donate false count)) (Some i) (λ g. false) true
  pub lent : Row (row (deal i j Lend false count)) (Some i) (λ g. false) true
  pub lent_retrieved : Row (row (deal i j Lend true count)) (Some i) (λ g. same_vm g j) true
  pub shared : Row (row (deal i j Share false count)) (Some i) (λ g. same_vm g i) false
  pub shared_retrieved : Row (row (deal i j Share true count)) (Some i) (λ g. same_vm g i or same_vm g j) false
