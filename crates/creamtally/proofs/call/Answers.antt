-- `call`: what the check and the mode answer leads to each way out.
use Rattle.std.proofs.Common.{List, ap, rules, ℕ, ◌∙◌, ◌≡◌}
use Rattle.model.specs.Entries.{check_of, then_mode}
use Rattle.model.specs.declared.Answer.{Answer}
use Rattle.model.specs.declared.Machine.{Machine}
use Rattle.creamtally.proofs.Answers.{call_done, call_refused, checked, told_done, told_refused}
use Rattle.creamtally.proofs.call.Goals as goal

-- the answer is that of the check, and then of the mode
answered : (m : Machine) (memory : List ℕ) {checked told : Answer} → checked ≡ check_of m memory → told ≡ then_mode checked m.mode
    → told ≡ then_mode (check_of m memory) m.mode
answered m memory e f = f ∙ ap (λ (a : Answer). then_mode a m.mode) e

pub returns-then-refused : goal.returns-then-refused
returns-then-refused c =
    call_refused _ _ _
    (answered _ _ c.check.ensures c.then_mode-answer.ensures)
    (search (rules, told_refused))

pub call-requires : goal.call-requires
call-requires c =
    checked _ _ _
    (answered _ _ c.check.ensures c.then_mode-answer.ensures)
    (search (rules, told_done))

pub returns : goal.returns
returns c =
    call_done _ _ _
    (answered _ _ c.check.ensures c.then_mode-answer.ensures)
    (search (rules, told_done))
    _ c.call.ensures
