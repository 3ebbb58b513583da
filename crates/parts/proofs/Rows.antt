-- The row of a page in a transaction, from what `holders`, `shares` and `with` answer: that of a share, and that of a page
-- lent or donated.
use Rattle.std.specs.Prelude.{Some}
use mathlib.Core.Path.{◌≡◌}
use mathlib.Core.Bool.{Bool, true, false, not}
use Rattle.model.specs.declared.VmSet.{VmSet}
use Rattle.model.specs.declared.Deal.{Deal}
use Rattle.model.specs.VmSet.{with}
use Rattle.model.specs.Row.{page_record, shares, holders, row}

module _ (d : Deal) {shared : Bool} {held : VmSet} (e : held ≡ holders d) (asked : shared ≡ shares d.kind) where
  pub row_shared : shared ≡ true → {access : VmSet} → access ≡ with d.sender held
      → page_record (Some d.sender) access (not shared) ≡ row d
  unfolding row
  row_shared t w = rw (← asked, t, w, e)

  pub row_handed : shared ≡ false → {access : VmSet} → access ≡ held → page_record (Some d.sender) access (not shared) ≡ row d
  unfolding row
  row_handed t w = rw (← asked, t, w, e)
