-- What the entries leave: their result, and the lent memory as they return.
use Rattle.std.specs.Prelude.{ℕ, Bool, true, false, List, None}
use Rattle.model.specs.declared.Machine.{Machine}
use Rattle.model.specs.declared.Stepped.{Stepped}
use Rattle.model.specs.declared.Ran.{Ran}
use Rattle.model.specs.declared.RanToCall.{RanToCall}
use Rattle.model.specs.Entries.{Acted, Went, run_of}
use Rattle.model.specs.ToCall.{WentToCall, run_to_call_of}

-- step and call
abbrev pub left : Stepped → List ℕ → Acted
left result memory = record { result = result; memory = memory }

-- run
abbrev pub left_by_run : Ran → List ℕ → Went
left_by_run result memory = record { result = result; memory = memory }

-- run_to_call
abbrev pub left_by_leg : RanToCall → List ℕ → WentToCall
left_by_leg result memory = record { result = result; memory = memory }

-- A run of either kind, up to the next call or not: one that is not wanted up to a call names none.

abbrev pub naming_no_call : Went → WentToCall
naming_no_call w =
    record {
      result = record { answer = w.result.answer; machine = w.result.machine; count = w.result.count; call = None };
      memory = w.memory;
    }

unfoldable pub walk_of : Bool → Machine → List ℕ → ℕ → WentToCall
walk_of false m memory budget = naming_no_call (run_of m memory budget)
walk_of true m memory budget = run_to_call_of m memory budget
