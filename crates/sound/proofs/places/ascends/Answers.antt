-- `sound::places::ascends` meets its contract: it asks of each page and the next what the definition does.
use Rattle.std.proofs.Common.{rules, ltb}
use Rattle.std.proofs.lemmas.List.Sorted.{answers_always}
use borrow.Author.Tests.{tests}
use Rattle.sound.proofs.Each.{held_ascend}
use Rattle.sound.proofs.places.ascends.Goals as goal

pub returns : goal.returns
returns c =
    held_ascend c.args.t.now _ c.held.ensures (c.is_sorted_by.ensures.cases (λ p q. ltb p.0 q.0) (answers_always _ _ _ (λ f a r g h. search (rules, tests))))
