-- The calls Yield and Run, over the caller's registers alone: what they become, and what is left to be done.
use Rattle.std.specs.Prelude.{ℕ, cond, List, ◌==◌, nat_le, nat_lt, slice_index, slice_set}
use Rattle.isa.specs.Tests.{◌and◌}
use Rattle.model.specs.declared.VmId.{VmId}
use Rattle.model.specs.Constants.{ERROR, SUCCESS, YIELD, RUN, DENIED, INVALID}
use Rattle.model.specs.State.{vm, is_primary}
use Rattle.exec.specs.declared.switch.Switch.{Switch}
use Rattle.exec.specs.declared.switch.Switch.TheVariants.{Other, Stay, Wake, To}

-- what is left to be done, and the caller's registers
pub record Switched : Type 0 where
  pub next : Switch
  pub r : List ℕ

abbrev pub switched : Switch → List ℕ → Switched
switched next r = record { next = next; r = r }

-- an error: R0 and R2, and nothing else
unfoldable pub refused_with : List ℕ → ℕ → Switched
refused_with r code = switched Stay (slice_set (slice_set r 0 ERROR) 2 code)

unfoldable pub yield_switch : List ℕ → VmId → Switched
yield_switch r caller = switched (cond (is_primary caller) Stay Wake) (slice_set r 0 SUCCESS)

unfoldable pub run_switch : List ℕ → VmId → ℕ → Switched
run_switch r caller n =
    cond
    (is_primary caller)
    (cond (nat_le 1 (slice_index r 1) and nat_lt (slice_index r 1) n) (switched (To (vm (slice_index r 1))) r) (refused_with r INVALID))
    (refused_with r DENIED)

unfoldable pub switch_of : List ℕ → VmId → ℕ → Switched
switch_of r caller n =
    cond (slice_index r 0 == YIELD) (yield_switch r caller)
    (cond (slice_index r 0 == RUN) (run_switch r caller n) (switched Other r))
