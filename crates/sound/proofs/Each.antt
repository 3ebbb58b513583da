-- What a chain asks of each guest or each transaction, and what a passed test tells of one transaction.
use Rattle.std.specs.Prelude.{Option, None, Some, is_some}
use Rattle.model.specs.declared.Message.{Message}
use Prim.Native.Nat.{ℕ, suc, ◌≤◌, ◌<◌}
use mathlib.Core.Path.{◌≡◌, refl, sym, ◌∙◌}
use mathlib.Core.Bool.{Bool, true, false, not, true≢false, false≢true}
use mathlib.Core.List.{List}
use native.Mathlib.Omega.{arith}
use lib.Dec.{leb, ltb}
use lib.ListN.{length, take, get_or}
use denote.Ref.{Bor}
use denote.Param.Members.{Mut}
use Rattle.std.specs.Fn.{Called}
use Rattle.std.specs.Iterator.{ChecksAll}
use Rattle.std.specs.Iterator.Adapters.{take_source, take_count, take_steps}
use Rattle.std.specs.Slice.Iter.{iter_rest}
use Rattle.std.specs.declared.slice.Iter.{Iter}
use Rattle.std.specs.declared.iter.Take.{Take}
use Rattle.std.proofs.iter.Yields.{fronts}
use borrow.Author.Tests.{leb-true}
use Rattle.isa.specs.Tests.{◌and◌}
use Rattle.isa.proofs.Tests.{and_right}
use Rattle.model.specs.declared.VmId.{VmId}
use Rattle.model.specs.declared.Deal.{Deal}
use Rattle.model.specs.declared.Transaction.{Transaction}
use Rattle.model.specs.Constants.{HANDLES, PLACES}
use Rattle.model.specs.State.{vm, page, same_vm, handle, transaction_at, page_at, inbox_at, is_empty, count_in, count_of}
use Rattle.model.specs.Sound.{if_live, if_full, blank_guest, each_deal, each_page, each_message, page_counts_in_range}
use Rattle.model.proofs.Tests.{every_at, every_same}
use Rattle.parts.proofs.Loops.{all_listed, all_among, all_adjacent}
use lib.Seq.{get_or-take}
use Rattle.std.proofs.lemmas.List.{get_or_read_under}
use Rattle.std.specs.List.{IsAllAdjacentAnswer}
use Rattle.model.specs.declared.Registers.{Registers}
use Rattle.model.specs.declared.Mailbox.{Mailbox}
use Rattle.model.specs.declared.PageId.{PageId}
use Rattle.model.specs.Tests.{every, ascending}

-- the library's test of an inbox
pub nothing_waits : (inbox : Option Message) {empty : Bool} → is_some inbox ≡ not empty → empty ≡ is_empty inbox
unfolding is_empty
nothing_waits None {empty = true} e = refl
nothing_waits None {empty = false} e = absurd (false≢true e)
nothing_waits (Some message) {empty = true} e = absurd (true≢false e)
nothing_waits (Some message) {empty = false} e = refl

-- a transaction whose page count is in range has no more pages than places
life_few : (life : Option Deal) → if_live life (λ d. leb 1 d.count and leb d.count PLACES) ≡ true → count_in life ≤ PLACES
unfolding if_live count_in
life_few None e = omega arith
life_few (Some d) e = leb-true _ _ (and_right _ _ e)

pub deal_few : (transactions : List Transaction) → page_counts_in_range transactions ≡ true → (h : ℕ) → h < HANDLES
    → count_of (transaction_at transactions (handle h)) ≤ PLACES
unfolding page_counts_in_range each_deal count_of
deal_few transactions e h b = life_few _ (every_at HANDLES _ e h b)

-- A clause that is tested of each transaction, of each transaction's pages, of the message that waits for each guest: what
-- `.all(..)` over the list answers, if it asks of each what the clause does.

pub all_deals :
    {F : Type 0} {g : Mut F (Bor Transaction × Unit {0}) Bool} {s : Iter Transaction} {f : F} {r : Bool} {transactions : List Transaction}
    (test : Deal → Bool) (u : Iter Transaction) → ChecksAll fronts g s f r u → iter_rest s ≡ transactions →
    ((x : Bor Transaction) (b : Bool) (q : F) → Called g f (x, tt) b q → (q ≡ f) × (b ≡ if_live x.now.deal test)) →
    length transactions ≡ HANDLES → r ≡ each_deal transactions test
unfolding each_deal transaction_at
all_deals test u ran here asks sixteen = all_listed (λ t. if_live t.deal test) _ _ u ran here asks sixteen

pub all_pages :
    {F : Type 0} {g : Mut F (Bor Transaction × Unit {0}) Bool} {s : Iter Transaction} {f : F} {r : Bool} {transactions : List Transaction}
    (test : PageId → Bool) (u : Iter Transaction) → ChecksAll fronts g s f r u → iter_rest s ≡ transactions →
    ((x : Bor Transaction) (b : Bool) (q : F) → Called g f (x, tt) b q → (q ≡ f) × (b ≡ every (count_of x.now) (λ i. test (page_at x.now i)))) →
    length transactions ≡ HANDLES → r ≡ each_page transactions test
unfolding each_page transaction_at
all_pages test u ran here asks sixteen = all_listed (λ t. every (count_of t) (λ i. test (page_at t i))) _ _ u ran here asks sixteen

pub all_messages :
    {F : Type 0} {g : Mut F (Bor (Option Message) × Unit {0}) Bool} {s : Take (Iter (Option Message))} {f : F} {r : Bool} {n : ℕ} {inboxes : List (Option Message)}
    (test : ℕ → VmId → Bool) (u : Take (Iter (Option Message))) → ChecksAll (take_steps fronts) g s f r u → iter_rest (take_source s) ≡ inboxes → take_count s ≡ n →
    ((x : Bor (Option Message)) (b : Bool) (q : F) → Called g f (x, tt) b q → (q ≡ f) × (b ≡ if_full x.now test)) →
    r ≡ each_message n inboxes (λ g. test)
unfolding each_message inbox_at if_full
all_messages test u ran here first asks = all_among _ (λ x. if_full x test) _ _ u ran here first asks refl

-- Lists side by side: what each guest has, its message with its number.

abbrev pub blank : (Registers × Mailbox) × Option Message → Bool
blank p = blank_guest p.0.0 p.0.1 p.1

abbrev pub from_another : ℕ × Option Message → Bool
from_another p = if_full p.1 (λ length sender. not (same_vm sender (vm p.0)))

-- The pages that a transaction holds: all of them pass, each is below the next.

pub all_held :
    {F : Type 0} {g : Mut F (Bor PageId × Unit {0}) Bool} {s : Iter PageId} {f : F} {r : Bool} {held : List PageId} (test : PageId → Bool)
    (t : Transaction) (u : Iter PageId) → (length held ≡ count_of t) × (held ≡ take (count_of t) t.pages) →
    ChecksAll fronts g s f r u → iter_rest s ≡ held →
    ((x : Bor PageId) (b : Bool) (q : F) → Called g f (x, tt) b q → (q ≡ f) × (b ≡ test x.now)) →
    r ≡ every (count_of t) (λ i. test (page_at t i))
unfolding page_at
all_held {held} test t u (long, is) ran here asks =
    all_listed test (page 0) held u ran here asks long
    ∙ every_same _ _ _ (λ i b. rw is (rw (get_or-take (count_of t) t.pages i (page 0) b)))

pub held_ascend :
    {held : List PageId} (t : Transaction) (r : Bool) → (length held ≡ count_of t) × (held ≡ take (count_of t) t.pages) →
    IsAllAdjacentAnswer (λ x y b. b ≡ ltb x.0 y.0) held r → r ≡ ascending (count_of t) (λ i. (page_at t i).0)
unfolding ascending page_at
held_ascend {held} t r (long, is) h =
    all_adjacent (λ x y. ltb x.0 y.0) (page 0) held r h long
    ∙ every_same _ _ _ (λ i b.
    rw is
    (rw (get_or-take (count_of t) t.pages i (page 0) (omega arith), get_or-take (count_of t) t.pages (suc i) (page 0) (omega arith))))

-- A transaction that a chain comes to is one of the machine's.

pub transaction_listed :
    (transactions : List Transaction) (t : Transaction) (h : ℕ) → length transactions ≡ HANDLES → h < length transactions →
    t ≡ get_or transactions h t → t ≡ transaction_at transactions (handle h)
unfolding transaction_at
transaction_listed transactions t h sixteen b at = get_or_read_under transactions h HANDLES t _ at (omega arith) (sym sixteen)

pub few_listed :
    (transactions : List Transaction) → page_counts_in_range transactions ≡ true → length transactions ≡ HANDLES →
    (t : Transaction) (h : ℕ) → h < length transactions → t ≡ get_or transactions h t → count_of t ≤ PLACES
few_listed transactions counts sixteen t h b at =
    rw (transaction_listed transactions t h sixteen b at) (deal_few transactions counts h (omega arith))
