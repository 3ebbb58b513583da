-- `handles::handle_call::on_handle` meets its contract: nothing is found, a test fails, or all pass.
use Rattle.std.proofs.Common.{sym, ◌∙◌}
use Rattle.parts.specs.Refusal.{code_of, verdict_of}
use Rattle.handles.proofs.Handles.{found_dealt, nothing_found, test_failed, tests_passed}
use Rattle.handles.proofs.handle_call.on_handle.Goals as goal

pub tested-requires : goal.tested-requires
tested-requires g c = found_dealt _ _ _ c.requires (sym c.own_found.ensures ∙ c.in-Some.is)

pub deed-requires : goal.deed-requires
deed-requires g c = found_dealt _ _ _ c.requires (sym c.own_found.ensures ∙ c.in-Some.is)

pub returns-in_default : goal.returns-in_default
unfolding code_of
returns-in_default g c memory =
    rw (c.with_error.ensures, c.into.ensures) (nothing_found _ _ _ _ memory (sym c.own_found.ensures ∙ c.in_default.is))

pub returns-in-Err : goal.returns-in-Err
unfolding verdict_of
returns-in-Err g c memory =
    rw (c.with_error-in-Err.ensures, c.into-in-Err.ensures)
    (test_failed _ _ _ _ memory (sym c.own_found.ensures ∙ c.in-Some.is) c.may.ensures c.marked.ensures c.in-Err.ensures)

pub returns-in-Ok : goal.returns-in-Ok
unfolding verdict_of
returns-in-Ok g c memory =
    rw (c.succeeded.ensures, c.deed.ensures)
    (tests_passed _ _ _ _ memory (sym c.own_found.ensures ∙ c.in-Some.is) c.may.ensures c.marked.ensures c.in-Ok.ensures)
