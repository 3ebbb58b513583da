-- The whole of soundness in the order in which the code tests it: the counts, then what must be in range, then that no page
-- has two uses, then the rest. Each asks what those before it have tested.
use Prim.Native.Nat.{◌≤◌}
use mathlib.Core.Path.{◌≡◌, sym, ◌∙◌}
use mathlib.Core.Bool.{Bool, true, false}
use lib.Dec.{ltb}
use Rattle.isa.specs.Tests.{◌and◌}
use Rattle.isa.proofs.Tests.{and_left, and_right, and_intro}
use Rattle.model.specs.declared.Machine.{Machine}
use Rattle.model.specs.Constants.{GUESTS, PAGES}
use Rattle.model.specs.Sound.{counts_in_range, page_counts_in_range, lengths_in_range, mailboxes_differ, mailboxes_below, senders_below, no_own_sender, parties_differ, pages_ascend, pages_below, pages_no_mailbox, no_donation_retrieved, no_page_twice, records_due, guests_blank, pages_blank, places_blank, sound}
use Rattle.model.proofs.Tests.{same_test}
use borrow.Author.Tests.{leb-true}
use Rattle.sound.specs.Known.{Counts, Ranges}
use Rattle.sound.specs.Rows.{Usable}
use Rattle.sound.proofs.Asked.{mailboxes_fit, pages_fit}

and_stops : (a b : Bool) → a ≡ false → a and b ≡ false
unfolding ◌and◌
and_stops a b e = rw e

and_starts : (a b : Bool) → a ≡ true → a and b ≡ b
unfolding ◌and◌
and_starts a b e = rw e

-- two tests that pass are one
infixr 35 ◌both◌
◌both◌ : {a b : Bool} → a ≡ true → b ≡ true → a and b ≡ true
p both q = and_intro p q

-- a test that is two, for what follows from both
chain : {a b : Bool} {C : Type 0} → a and b ≡ true → (a ≡ true → b ≡ true → C) → C
chain e then = then (and_left _ _ e) (and_right _ _ e)

module _ (m : Machine) where
  abbrev pub Uses : Bool
  Uses =
      mailboxes_differ m.n m.mailboxes
      and pages_no_mailbox m.n m.mailboxes m.transactions
      and no_page_twice m.transactions

  abbrev pub Rest : Bool
  Rest =
      ltb m.current.0 m.n
      and (lengths_in_range m.n m.inboxes and senders_below m.n m.inboxes and no_own_sender m.n m.inboxes)
      and (parties_differ m.transactions and pages_ascend m.transactions and no_donation_retrieved m.transactions)
      and records_due m.n m.m m.mailboxes m.transactions m.records
      and guests_blank m.n m.registers m.mailboxes m.inboxes
      and pages_blank m.m m.records
      and places_blank m.transactions

  abbrev Grouped : Bool
  Grouped = (Counts m) and (Ranges m) and Uses and Rest

  -- the same clauses in another order
  grouped : sound m ≡ Grouped
  unfolding sound
  grouped =
      same_test
      _
      _
      (λ e.
      chain e (λ counts e.
      chain e (λ page-counts e.
      chain e (λ lengths e.
      chain e (λ differ e.
      chain e (λ below e.
      chain e (λ current e.
      chain e (λ owners e.
      chain e (λ senders e.
      chain e (λ no_own e.
      chain e (λ two-parties e.
      chain e (λ parties e.
      chain e (λ ascend e.
      chain e (λ pages e.
      chain e (λ no_box e.
      chain e (λ no-donation e.
      chain e (λ once e.
      chain e (λ due e.
      chain e (λ guests_blank e.
      chain e (λ pages_blank places_blank.
      (counts both page-counts)
      both (below both owners both parties both pages)
      both (differ both no_box both once)
      both current
      both (lengths both senders both no_own)
      both (two-parties both ascend both no-donation)
      both due
      both guests_blank both pages_blank both places_blank))))))))))))))))))))
      (λ e.
      chain e (λ c e.
      chain e (λ r e.
      chain e (λ u e.
      chain c (λ counts page-counts.
      chain r (λ below r.
      chain r (λ owners r.
      chain r (λ parties pages.
      chain u (λ differ u.
      chain u (λ no_box once.
      chain e (λ current e.
      chain e (λ l e.
      chain e (λ d e.
      chain e (λ due b.
      chain l (λ lengths l.
      chain l (λ senders no_own.
      chain d (λ two-parties d.
      chain d (λ ascend no-donation.
      chain b (λ guests_blank b.
      chain b (λ pages_blank places_blank.
      counts both page-counts both lengths both differ both below both current both owners both senders both no_own
      both two-parties both parties both ascend both pages both no_box both no-donation both once both due
      both guests_blank both pages_blank both places_blank))))))))))))))))))))

  -- Where the code stops, and where it does not.

  pub counts_stop : (Counts m) ≡ false → false ≡ sound m
  counts_stop e = sym (grouped ∙ and_stops (Counts m) _ e)

  pub ranges_stop : (Counts m) ≡ true → (Ranges m) ≡ false → false ≡ sound m
  ranges_stop e r = sym (grouped ∙ and_starts (Counts m) _ e ∙ and_stops (Ranges m) _ r)

  pub uses_stop : (Counts m) ≡ true → (Ranges m) ≡ true → Uses ≡ false → false ≡ sound m
  uses_stop e r u = sym (grouped ∙ and_starts (Counts m) _ e ∙ and_starts (Ranges m) _ r ∙ and_stops Uses _ u)

  pub rest_decides : (Counts m) ≡ true → (Ranges m) ≡ true → Uses ≡ true → Rest ≡ sound m
  rest_decides e r u = sym (grouped ∙ and_starts (Counts m) _ e ∙ and_starts (Ranges m) _ r ∙ and_starts Uses _ u)

  -- What is known behind each stop.

  pub few_guests : (Counts m) ≡ true → m.n ≤ GUESTS
  unfolding counts_in_range
  few_guests e = leb-true _ _ (and_left _ _ (and_right _ _ (and_left _ _ e)))

  pub few_pages : (Counts m) ≡ true → m.m ≤ PAGES
  unfolding counts_in_range
  few_pages e = leb-true _ _ (and_right _ _ (and_right _ _ (and_right _ _ (and_left _ _ e))))

  pub page_counts_known : (Counts m) ≡ true → page_counts_in_range m.transactions ≡ true
  page_counts_known e = and_right _ _ e

  pub mailboxes_in_reach : (Counts m) ≡ true → (Ranges m) ≡ true → mailboxes_below m.n PAGES m.mailboxes ≡ true
  mailboxes_in_reach e r = mailboxes_fit _ _ _ (and_left _ _ r) (few_pages e)

  pub pages_in_reach : (Counts m) ≡ true → (Ranges m) ≡ true → pages_below PAGES m.transactions ≡ true
  pages_in_reach e r = pages_fit _ _ (and_right _ _ (and_right _ _ (and_right _ _ r))) (few_pages e)

  pub usable : (Counts m) ≡ true → (Ranges m) ≡ true → Uses ≡ true → Usable m.n m.m m.mailboxes m.transactions m.records
  usable e r u =
      chain r (λ below r.
      chain r (λ owners r.
      chain r (λ parties pages.
      chain u (λ differ u.
      chain u (λ no_box once.
      record {
        eight_guests = few_guests e;
        sixty_four_pages = few_pages e;
        page_counts_in_range = page_counts_known e;
        mailboxes_differ = differ;
        mailboxes_below = below;
        owners_below = owners;
        parties_below = parties;
        pages_below = pages;
        pages_no_mailbox = no_box;
        no_page_twice = once;
      })))))
