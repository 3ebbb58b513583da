-- The laws of a sending: a descriptor as a whole; the words that it stands in; what the tests come to, and what is known where
-- the descriptor is a good one.
use Prim.Native.Nat.{ℕ, ◌+◌, ◌-◌, ◌*◌, ◌%◌, ◌≤◌, ◌<◌}
use mathlib.Core.Path.{◌≡◌, sym, ap, ◌∙◌}
use mathlib.Core.Bool.{Bool, true, false, not}
use mathlib.Core.List.{List}
use native.Mathlib.Omega.{arith}
use lib.ListN.{length, get_or, take, drop, replicate, length-drop}
use Rattle.std.proofs.lemmas.List.{get_or-take, length-take-le}
use lib.Dec.{ltb, leb, eqb}
use borrow.Author.Rules.{part_to_end}
use borrow.Author.Tests.{ltb-true, le-leb}
use Rattle.std.specs.Prelude.{Option, Some, IfSome, is_some}
use Rattle.std.specs.List.{list_all}
use Rattle.isa.specs.Tests.{◌and◌}
use Rattle.isa.proofs.Tests.{and_intro, and_left, and_right, and_false}
use Rattle.model.specs.declared.VmId.{VmId}
use Rattle.model.specs.declared.PageRecord.{PageRecord}
use Rattle.model.specs.declared.Mailbox.{Mailbox}
use Rattle.model.specs.declared.Kind.{Kind}
use Rattle.model.specs.declared.Machine.{Machine}
use Rattle.model.specs.Constants.{PAGE, PAGES, PLACES, INVALID, DENIED, NO_MEMORY}
use Rattle.model.specs.Tests.{every, ascending}
use Rattle.model.specs.State.{state, vm, page, same_vm, record_at, mailbox_at, own_mailbox, argument}
use Rattle.model.specs.Rights.{page_of}
use Rattle.model.specs.Row.{kind_number, owned_row, same_record}
use Rattle.model.specs.Memory.{base_of, tx_words, tx_word}
use Rattle.model.specs.Reply.{Verdict, passes, refused, need, succeeded, is_other}
use Rattle.model.specs.Sending.{sent_kind, sent_to, sent_base, sent_page, sent_length, sent_count, is_base, may_be_sent, lowest_free, granted, sending_verdict, sent_deal, sent_transaction, sent, with_handle}
use Rattle.model.specs.Sound.{sound}
use Rattle.model.proofs.Tests.{every_at, every_same, set_each_in_order}
use Rattle.model.proofs.Sound.{sound_holds}
use Rattle.offers.specs.declared.descriptor.Proposal.{Proposal}
use Rattle.offers.specs.Descriptor.{Words, base_in, pages_in, receiver_in, well_formed, Read}
use Rattle.offers.specs.Sending.{sent_by, Sendable}
use Rattle.parts.proofs.Answers.{caller_below, need_fails, need_joined, need_passes}
use Rattle.parts.proofs.Loops.{every_taken}

-- A descriptor.

module _ (kind : Kind) (m : Machine) (length : ℕ) (tx : List ℕ) where
  no_other : ltb (receiver_in tx) m.n ≡ false → (rest : Bool) → is_other m (receiver_in tx) and rest ≡ false
  unfolding is_other ◌and◌
  no_other e rest = rw e

  pub nobody_meant : ltb (receiver_in tx) m.n ≡ false → well_formed kind m length tx ≡ false
  unfolding well_formed
  nobody_meant e = and_false _ _ (λ h. no_other e _)

  pub not_based : every (length - 2) (λ i. is_base m.m (base_in tx i)) ≡ false → well_formed kind m length tx ≡ false
  unfolding well_formed ◌and◌
  not_based e =
      and_false (eqb (get_or tx 0 0) length and eqb (get_or tx 1 0 % 65536) (kind_number kind)) _
      (λ h. and_false (is_other m (receiver_in tx)) _ (λ q. rw e))

  -- where the word names a guest and the bases are pages', the other tests are left
  pub tests_left : (to : VmId) → ltb (receiver_in tx) m.n ≡ true → vm (receiver_in tx) ≡ to
      → every (length - 2) (λ i. is_base m.m (base_in tx i)) ≡ true
      → well_formed kind m length tx
      ≡ ((eqb (get_or tx 0 0) length and eqb (get_or tx 1 0 % 65536) (kind_number kind))
      and not (same_vm to m.current)
      and ascending (length - 2) (base_in tx))
  unfolding well_formed is_other ◌and◌
  tests_left to e p bases = rw (e, p, bases)

  good_receiver : well_formed kind m length tx ≡ true → receiver_in tx < m.n
  unfolding well_formed is_other
  good_receiver e = ltb-true _ _ (and_left _ _ (and_left _ _ (and_right _ _ e)))

  pub good_bases : well_formed kind m length tx ≡ true → every (length - 2) (λ i. is_base m.m (base_in tx i)) ≡ true
  unfolding well_formed
  good_bases e = and_left _ _ (and_right _ _ (and_right _ _ e))

listed_page : (n : ℕ) (tx : List ℕ) (i : ℕ) → i < n → n ≤ PLACES → get_or (pages_in n tx) i (page 0) ≡ page_of (base_in tx i)
unfolding pages_in
listed_page n tx i b few = set_each_in_order n (λ k. page_of (base_in tx k)) (replicate PLACES (page 0)) i (page 0) b (omega arith)

-- The words from the caller's TX page on.

module _ (m : Machine) (memory : List ℕ) (box : Mailbox) (own : box ≡ mailbox_at m.mailboxes m.current) where
  pub tx_part : take (length memory - 1024 * box.tx.0) (drop (1024 * box.tx.0) memory) ≡ tx_words (state m memory)
  unfolding tx_words base_of own_mailbox
  tx_part = rw own (part_to_end memory (1024 * (mailbox_at m.mailboxes m.current).tx.0))

  -- the whole page is inside memory
  pub tx_inside : sound m ≡ true → length memory ≡ PAGE * m.m → 1024 * box.tx.0 + 1024 ≤ length memory
  tx_inside s whole =
      let facts = sound_holds m s in
      let below : (mailbox_at m.mailboxes m.current).tx.0 < m.m =
      (facts.mailboxes_below m.current.0 facts.current_below).0 in
      rw own (omega arith)

  pub tx_long : sound m ≡ true → length memory ≡ PAGE * m.m
      → Words (take (length memory - 1024 * box.tx.0) (drop (1024 * box.tx.0) memory))
  tx_long s whole = rw (part_to_end memory (1024 * box.tx.0), length-drop) (omega (arith, tx_inside s whole))

-- The tests.

unfoldable pub own_pages : Machine → ℕ → List ℕ → Bool
own_pages m length tx = every (length - 2) (λ i. may_be_sent m (page_of (base_in tx i)))

-- five tests with one code are one test
gathered : (a b c d e : Bool) (code : ℕ) (rest : Verdict)
    → need a code (need b code (need c code (need d code (need e code rest)))) ≡ need ((a and b) and c and d and e) code rest
gathered a b c d e code rest =
    need_joined a b code _
    ∙ ap (need (a and b) code) (ap (need c code) (need_joined d e code rest) ∙ need_joined c (d and e) code rest)
    ∙ need_joined (a and b) (c and d and e) code rest

module _ (kind : Kind) (m : Machine) (memory : List ℕ) {words : ℕ} (first : words ≡ argument m 1) where
  pub wrong_length : leb 3 words and leb words 10 ≡ false → refused INVALID ≡ sending_verdict kind (state m memory)
  unfolding sending_verdict sent_length
  wrong_length e = sym (need_fails INVALID _ (rw first at e))

  module _ (low : 3 ≤ words) (high : words ≤ 10) {tx : List ℕ} (part : tx ≡ tx_words (state m memory)) where
    verdict_by :
        sending_verdict kind (state m memory)
        ≡ need (well_formed kind m words tx) INVALID
        (need (own_pages m words tx) DENIED (need (granted m m.current) NO_MEMORY passes))
    unfolding sending_verdict sent_length sent_count sent_kind sent_to sent_base sent_page tx_word well_formed receiver_in base_in own_pages
    verdict_by =
        need_passes INVALID _ (rw first at (and_intro (le-leb 3 words low) (le-leb words 10 high)))
        ∙ rw (first, part) (gathered _ _ _ _ _ INVALID _)

    pub ill_formed : well_formed kind m words tx ≡ false → refused INVALID ≡ sending_verdict kind (state m memory)
    ill_formed e = sym (verdict_by ∙ need_fails _ _ e)

-- What is known where the descriptor is a good one.

module _ (kind : Kind) (m : Machine) (p : Proposal) (words : ℕ) (tx : List ℕ) (few : words - 2 ≤ PLACES) (read : Read words tx p) where
  pub reached : sound m ≡ true → well_formed kind m words tx ≡ true → (i : ℕ) → i < p.count → (get_or p.pages i (page 0)).0 < PAGES
  unfolding is_base
  reached s good i b =
      let most = (sound_holds m s).counts_in_range.sixty_four_pages in
      let b' : i < words - 2 = rw read.count at b in
      let below : (page_of (base_in tx i)).0 < m.m =
      ltb-true _ _ (and_right _ _ (every_at _ _ (good_bases kind m words tx good) i b'))
      in
      rw (read.pages, listed_page (words - 2) tx i b' few) (omega arith)

  pub own_listed : {due : PageRecord} → due ≡ owned_row m.current → length p.pages ≡ PLACES
      → list_all (λ q. same_record (record_at m.records q) due) (take p.count p.pages) ≡ own_pages m words tx
  unfolding own_pages may_be_sent
  own_listed {due} row whole =
      every_taken (page 0) (λ q. same_record (record_at m.records q) due) p.pages p.count (rw (read.count, whole) few)
      ∙ rw (read.count, read.pages, row)
      (every_same (words - 2) _ _ (λ i b. ap (may_be_sent m) (listed_page (words - 2) tx i b few)))

  left_by : (memory : List ℕ) → words ≡ argument m 1 → tx ≡ tx_words (state m memory)
      → sent_by kind m p ≡ with_handle (succeeded (sent kind (state m memory))) (lowest_free m.transactions)
  unfolding sent_by sent sent_transaction sent_deal sent_length sent_count sent_to sent_base sent_page tx_word pages_in receiver_in base_in
  left_by memory first part = rw (read.receiver, read.count, read.pages, first, part)

-- what the tests of the pages and of the handle come to, what the pages' test and a sending ask, and what it leaves
pub record Told (kind : Kind) (m : Machine) (memory : List ℕ) (p : Proposal) (due : PageRecord) : Type 0 where
  pub verdict : sending_verdict kind (state m memory)
      ≡ need (list_all (λ q. same_record (record_at m.records q) due) (take p.count p.pages)) DENIED
      (need (granted m m.current) NO_MEMORY passes)
  pub asked : (i : ℕ) → i < length (take p.count p.pages) → (get_or (take p.count p.pages) i (page 0)).0 < PAGES
  pub sendable : granted m m.current ≡ true → Sendable m p
  pub left : sent_by kind m p ≡ with_handle (succeeded (sent kind (state m memory))) (lowest_free m.transactions)

pub told : (kind : Kind) (m : Machine) (memory : List ℕ) (p : Proposal) {due : PageRecord} {words : ℕ} {tx : List ℕ} {o : Option Proposal}
    → sound m ≡ true → words ≡ argument m 1 → 3 ≤ words → words ≤ 10 → tx ≡ tx_words (state m memory) → due ≡ owned_row m.current
    → is_some o ≡ well_formed kind m words tx → IfSome o (Read words tx) → o ≡ Some p → length p.pages ≡ PLACES
    → Told kind m memory p due
told kind m memory p {due} {words} {tx} {o} s first low high part row formed said found whole =
    let good : well_formed kind m words tx ≡ true = sym formed ∙ ap is_some found in
    let read : Read words tx p = rw found at said in
    let eight = (sound_holds m s).counts_in_range.eight_guests in
    let few : words - 2 ≤ PLACES = omega arith in
    let few' : p.count ≤ PLACES = rw read.count few in
    let below = reached kind m p words tx few read s good in
    let size : length (take p.count p.pages) ≡ p.count = length-take-le _ _ (omega arith) in
    record {
      verdict =
          rw (own_listed kind m p words tx few read row whole)
          (verdict_by kind m memory first low high part ∙ need_passes _ _ good);
      asked = λ i b. rw (get_or-take p.count p.pages i (page 0) (omega arith)) (below i (omega arith));
      sendable = λ e. record {
        caller_below = caller_below m s;
        receiver_below = rw read.receiver (omega (arith, good_receiver kind m words tx good));
        few = few';
        pages_below = below;
        handle_free = e;
      };
      left = left_by kind m p words tx few read memory first part;
    }
