-- The errors of the calls: the code of each, and what the outcome of a chain of tests says.
use Rattle.std.specs.Prelude.{ℕ, Result, Ok, Err}
use Rattle.model.specs.Constants.{NOT_SUPPORTED, INVALID, NO_MEMORY, BUSY, DENIED, ABORTED, NO_DATA}
use Rattle.model.specs.Reply.{Verdict, passes, refused}
use Rattle.parts.specs.declared.refusal.Refusal.{Refusal}
use Rattle.parts.specs.declared.refusal.Refusal.TheVariants.{NotSupported, Invalid, NoMemory, Busy, Denied, Aborted, NoData}

unfoldable pub code_of : Refusal → ℕ
code_of NotSupported = NOT_SUPPORTED
code_of Invalid = INVALID
code_of NoMemory = NO_MEMORY
code_of Busy = BUSY
code_of Denied = DENIED
code_of Aborted = ABORTED
code_of NoData = NO_DATA

-- a call's tests, by what they give: they pass, or the first that fails gives its code
unfoldable pub verdict_of : {A : Type 0} → Result A Refusal → Verdict
verdict_of (Ok x) = passes
verdict_of (Err refusal) = refused (code_of refusal)
