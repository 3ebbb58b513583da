use Rattle.std.proofs.Common.{rules, sym, ◌∙◌}
use Rattle.model.proofs.Entries.{is_done_lem}
use Rattle.creamtally.proofs.Answers.{mode_kept, mode_stopped, mode_unasked, same_normal, told_done, told_refused}
use Rattle.creamtally.proofs.modes.then_mode.Goals as goal

pub returns-then-refused : goal.returns-then-refused
returns-then-refused c = mode_unasked c.args.answer c.args.mode (search (rules, told_refused))

pub returns-then-eq : goal.returns-then-eq
returns-then-eq c =
    mode_kept _ _
    (search (rules, is_done_lem, told_done))
    (sym (same_normal c.args.mode) ∙ sym c.eq.ensures ∙ c.if-eq.true)

pub returns : goal.returns
returns c =
    mode_stopped _ _
    (search (rules, told_done))
    (sym (same_normal c.args.mode) ∙ sym c.eq.ensures ∙ c.if-eq.false)
