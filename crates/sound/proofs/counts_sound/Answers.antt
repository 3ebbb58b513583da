-- `sound::counts_sound` meets its contract: each clause is what its function answers. The number of pages that
-- `counts_in_range` is asked about is the machine's own, or neither of the two is in range.
use Rattle.std.specs.Prelude.{ℕ, ◌≡◌, ◌≤◌, true}
use Rattle.std.proofs.Common.{arith}
use borrow.Author.Tests.{leb-true}
use Rattle.isa.specs.Tests.{◌and◌}
use Rattle.isa.proofs.Tests.{and_right}
use Rattle.model.specs.Constants.{PAGES}
use Rattle.model.specs.Sound.{counts_in_range}
use Rattle.model.proofs.Tests.{same_test}
use Rattle.sound.proofs.counts_sound.Goals as goal

few : (n m : ℕ) → counts_in_range n m ≡ true → m ≤ PAGES
unfolding counts_in_range
few n m e = leb-true _ _ (and_right _ _ (and_right _ _ (and_right _ _ e)))

-- of two numbers of pages the same is answered if they are one, or neither is in range
same_pages : (n m k : ℕ) → (k ≤ PAGES → k ≡ m) → (m ≤ PAGES → k ≡ m) → counts_in_range n k ≡ counts_in_range n m
same_pages n m k asked own = same_test _ _ (λ e. rw (← asked (few n k e)) e) (λ e. rw (own (few n m e)) e)

pub returns : goal.returns
unfolding ◌and◌
returns c =
    rw
    (c.counts_in_range.ensures, c.from.ensures, c.page_counts_in_range.ensures)
    (rw (same_pages c.args.machine.now.n c.args.machine.now.m c.from-2.result (λ l. omega arith) (λ l. omega arith)))
