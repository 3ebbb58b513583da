-- `call`: the call that R0 names, or the error that it names none.
use Rattle.std.proofs.Common.{◌∙◌}
use Rattle.model.specs.Reply.{answer}
use Rattle.model.specs.State.{state}
use Rattle.calls.specs.Choice.{done_by, refused_by}
use Rattle.calls.proofs.Chosen.{found_call}
use Rattle.calls.proofs.call.Goals as goal

pub returns-in-Ok : goal.returns-in-Ok
unfolding done_by
returns-in-Ok c = c.made.ensures ∙ found_call (state c.args.machine c.args.mem.now) c.argument.ensures c.in-Ok.ensures

pub returns-in-Err : goal.returns-in-Err
unfolding done_by refused_by answer
returns-in-Err c = rw (c.with_error.ensures, c.into.ensures) (found_call (state c.args.machine c.args.mem.now) c.argument.ensures c.in-Err.ensures)
