-- `sound::blank::registers_zero` meets its contract: it asks of each register what the definition does.
use Rattle.std.proofs.Common.{rules, eqb}
use borrow.Author.Tests.{tests}
use Rattle.parts.proofs.Loops.{all_listed}
use Rattle.model.specs.State.{register}
use Rattle.sound.proofs.blank.registers_zero.Goals as goal

pub returns : goal.returns
unfolding register
returns c = all_listed (λ w. eqb w 0) _ c.args.file.now.r _ c.all.ensures.ran (cc) (λ x b q k. search (rules, tests)) (search rules)
