-- `handles::lookup::in_place` meets its contract: it is the definition.
use Rattle.std.proofs.Common.{◌≤◌, length, rules, ◌∙◌}
use Rattle.model.specs.HandleCall.{in_place}
use Rattle.model.specs.State.{page, page_at, count_of}
use Rattle.parts.proofs.Loops.{every_taken}
use Rattle.handles.proofs.lookup.in_place.Goals as goal

pub returns : goal.returns
unfolding in_place page_at
returns c =
    let t = c.transaction_at-t.result in
    let few : count_of t ≤ length t.pages = search rules in
    c.all_have.ensures
    ∙ rw c.held.ensures.1 (every_taken (page 0) _ t.pages _ few ∙ rw (c.row.ensures, c.transaction_at-t.ensures))
