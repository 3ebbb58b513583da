-- The laws of a row, and the table's rows from them. Whoever reasons about rows uses the laws, not the definition.
use Rattle.std.specs.Prelude.{Some}
use Prim.Native.Nat.{ℕ}
use mathlib.Core.Path.{◌≡◌, refl, ◌∙◌}
use mathlib.Core.Bool.{Bool, true, false, not}
use Rattle.isa.specs.Tests.{◌and◌, ◌or◌}
use Rattle.model.specs.declared.VmId.{VmId}
use Rattle.model.specs.declared.Kind.{Kind}
use Rattle.model.specs.declared.Kind.TheVariants.{Donate, Lend, Share}
use Rattle.model.specs.declared.Deal.{Deal}
use Rattle.model.specs.State.{same_vm}
use Rattle.model.specs.VmSet.{has, none, only}
use Rattle.model.specs.Row.{shares, donates, holders, mailbox_row, free_row, row}
use Rattle.model.specs.Table.{deal, Table}
use Rattle.isa.proofs.Tests.{or_nothing}
use Rattle.model.proofs.Members.{has_none, has_only, has_with}

-- A row. Kind by kind, so that a wrong one is refused at its own line.

pub row_owner : (d : Deal) → (row d).owner ≡ Some d.sender
unfolding row
row_owner d = refl

-- the sender of a share has access, and whoever has retrieved
pub row_access : (d : Deal) (g : VmId)
    → has g (row d).access ≡ (shares d.kind and same_vm g d.sender) or (d.retrieved and same_vm g d.receiver)
unfolding row shares donates holders ◌and◌ ◌or◌
row_access d g = go d.kind d.retrieved
  where
    go : (k : Kind) (r : Bool)
        → has g (row (deal d.sender d.receiver k r d.count)).access
        ≡ (shares k and same_vm g d.sender) or (r and same_vm g d.receiver)
    go Donate false = has_none g
    go Donate true = has_only g d.receiver
    go Lend false = has_none g
    go Lend true = has_only g d.receiver
    go Share false = has_with g d.sender none ∙ rw (has_none g)
    go Share true = has_with g d.sender (only d.receiver) ∙ rw (has_only g d.receiver)

-- a share takes the exclusive mark
pub row_exclusive : (d : Deal) → (row d).exclusive ≡ not (shares d.kind)
unfolding row shares ◌and◌
row_exclusive d = go d.kind d.retrieved
  where
    go : (k : Kind) (r : Bool) → (row (deal d.sender d.receiver k r d.count)).exclusive ≡ not (shares k)
    go Donate false = refl
    go Donate true = refl
    go Lend false = refl
    go Lend true = refl
    go Share false = refl
    go Share true = refl

-- The table.

pub table : (i j : VmId) (count : ℕ) → Table i j count
unfolding shares mailbox_row free_row ◌and◌ ◌or◌
table i j count =
    record {
      mailbox_page = record { has_owner = refl; has_access = λ g. has_only g i; has_mark = refl };
      owned_page = record { has_owner = refl; has_access = λ g. has_only g i; has_mark = refl };
      spare_page = record { has_owner = refl; has_access = has_none; has_mark = refl };
      donated = record { has_owner = row_owner _; has_access = row_access _; has_mark = row_exclusive _ };
      lent = record { has_owner = row_owner _; has_access = row_access _; has_mark = row_exclusive _ };
      lent_retrieved = record { has_owner = row_owner _; has_access = row_access _; has_mark = row_exclusive _ };
      shared =
          record { has_owner = row_owner _; has_access = λ g. row_access _ g ∙ or_nothing (same_vm g i); has_mark = row_exclusive _ };
      shared_retrieved = record { has_owner = row_owner _; has_access = row_access _; has_mark = row_exclusive _ };
    }
