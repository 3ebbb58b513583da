-- The loop's invariant: the value stands at the pages that it has come past.
use Rattle.std.proofs.Common.{◌≡◌}
use Rattle.model.specs.Tests.{set_each}
use Rattle.model.specs.State.{page_at}
use Rattle.parts.proofs.pages.set_held.Given as goal

abbrev pub invariant-loop-page : goal.invariant-loop-page
invariant-loop-page g l = l.all ≡ set_each l.page-index (λ k. (page_at l.t k).0) (λ k. l.value) l.initial.all
