-- The guest that a word names and the page that starts at an address, if there is one.
use Rattle.std.specs.Prelude.{ℕ, cond, ltb, Option, None, Some}
use Rattle.model.specs.declared.VmId.{VmId}
use Rattle.model.specs.declared.PageId.{PageId}
use Rattle.model.specs.State.{vm}
use Rattle.model.specs.Rights.{page_of}
use Rattle.model.specs.Sending.{is_base}

unfoldable pub vm_of : ℕ → ℕ → Option VmId
vm_of w n = cond (ltb w n) (Some (vm w)) None

unfoldable pub page_at_base : ℕ → ℕ → Option PageId
page_at_base x m = cond (is_base m x) (Some (page_of x)) None
