-- Soundness as a test is soundness as a record of facts: the clauses that are more than a line, then the whole, with a
-- link for each clause.
use Rattle.std.specs.Prelude.{Option}
use Rattle.model.specs.declared.Message.{Message}
use Prim.Native.Nat.{ℕ}
use mathlib.Core.Path.{◌≡◌}
use mathlib.Core.Bool.{true}
use mathlib.Core.List.{List}
use Rattle.model.specs.declared.Registers.{Registers}
use Rattle.model.specs.declared.Mailbox.{Mailbox}
use Rattle.model.specs.declared.Transaction.{Transaction}
use Rattle.model.specs.declared.Machine.{Machine}
use Rattle.model.specs.Sound.{each_deal, each_page, each_message, counts_in_range, CountsInRange, page_counts_in_range, lengths_in_range, apart, mailboxes_differ, MailboxesDiffer, mailboxes_below, owners_below, senders_below, no_own_sender, parties_differ, parties_below, pages_ascend, pages_below, pages_no_mailbox, no_donation_retrieved, no_page_twice, NoPageTwice, records_due, blank_guest, BlankGuest, guests_blank, pages_blank, places_blank, sound, Sound}
use Rattle.model.proofs.Links.{Link, said, ltb_link, leb_link, eqb_link, same_vm_link, same_page_link, same_record_link, fails_link, never_link, not_link, not_and_link, ◌both◌, from_link, ◌also◌, ◌make◌, every_link, every_of_link, every_of_two_link, ascending_link, if_live_link, if_full_link, is_empty_link, if_owned_link, keeps_link, holds_link, at_most_one, none_earlier}

pub counts_in_range_link : (n m : ℕ) → Link (counts_in_range n m) (CountsInRange n m)
unfolding counts_in_range
counts_in_range_link n m =
    (λ c. c.two_guests, leb_link)
    also (λ c. c.eight_guests, leb_link)
    also (λ c. c.room_for_mailboxes, leb_link)
    also (λ c. c.sixty_four_pages, leb_link)
    make (λ c. search)

pub mailboxes_differ_link : (n : ℕ) (boxes : List Mailbox) → Link (mailboxes_differ n boxes) (MailboxesDiffer n boxes)
unfolding mailboxes_differ apart
mailboxes_differ_link n boxes =
    said
    (every_link (λ g. not_link same_page_link both every_link (λ k. keeps_link _ (never_link both never_link))))
    (λ c. record { tx_is_not_rx = λ g b. (c g b).0; one_keeper = at_most_one (λ g b. (c g b).1) })
    (λ c g b. (c.tx_is_not_rx g b, none_earlier c.one_keeper g b))

pub no_page_twice_link : (transactions : List Transaction) → Link (no_page_twice transactions) (NoPageTwice transactions)
unfolding no_page_twice
no_page_twice_link transactions =
    said (every_link (λ h. every_link (λ k. holds_link _ (every_link (λ i. never_link))))) at_most_one none_earlier

blank_guest_link : (file : Registers) (box : Mailbox) (inbox : Option Message) → Link (blank_guest file box inbox) (BlankGuest file box inbox)
unfolding blank_guest
blank_guest_link file box inbox =
    (λ c. c.zero_registers, every_link (λ i. eqb_link))
    also (λ c. c.zero_pc, eqb_link)
    also (λ c. c.clear_flag, fails_link)
    also (λ c. c.no_tx, same_page_link)
    also (λ c. c.no_rx, same_page_link)
    also (λ c. c.no_message, is_empty_link)
    make (λ c. search)

-- The whole: each field of the record beside the link of its clause.

sound_link : (m : Machine) → Link (sound m) (Sound m)
unfolding sound each_deal each_page each_message page_counts_in_range lengths_in_range
    mailboxes_below owners_below senders_below no_own_sender parties_differ parties_below
    pages_ascend pages_below pages_no_mailbox no_donation_retrieved records_due guests_blank pages_blank places_blank
sound_link m =
    (λ s. s.counts_in_range, counts_in_range_link _ _)
    also (λ s. s.page_counts_in_range, every_of_link (λ h. if_live_link (λ d. leb_link both leb_link)))
    also (λ s. s.lengths_in_range, every_of_two_link (λ g. if_full_link (λ length sender. leb_link both leb_link)))
    also (λ s. s.mailboxes_differ, mailboxes_differ_link _ _)
    also (λ s. s.mailboxes_below, every_link (λ g. ltb_link both ltb_link))
    also (λ s. s.current_below, ltb_link)
    also (λ s. s.owners_below, every_of_link (λ p. if_owned_link (λ g. ltb_link)))
    also (λ s. s.senders_below, every_of_two_link (λ g. if_full_link (λ length sender. ltb_link)))
    also (λ s. s.no_own_sender, every_of_two_link (λ g. if_full_link (λ length sender. not_link same_vm_link)))
    also (λ s. s.parties_differ, every_of_link (λ h. if_live_link (λ d. not_link same_vm_link)))
    also (λ s. s.parties_below, every_of_link (λ h. if_live_link (λ d. ltb_link both ltb_link)))
    also (λ s. s.pages_ascend, every_of_link (λ h. ascending_link))
    also (λ s. s.pages_below, every_of_link (λ h. every_link (λ i. ltb_link)))
    also (λ s. s.pages_no_mailbox, every_of_link (λ h. every_link (λ i. fails_link)))
    also (λ s. s.no_donation_retrieved, every_of_link (λ h. if_live_link (λ d. not_and_link)))
    also (λ s. s.no_page_twice, no_page_twice_link _)
    also (λ s. s.records_due, every_link (λ p. same_record_link))
    also (λ s. s.guests_blank, every_link (λ g. from_link (blank_guest_link _ _ _)))
    also (λ s. s.pages_blank, every_link (λ p. from_link same_record_link))
    also (λ s. s.places_blank, every_of_link (λ h. every_link (λ i. from_link same_page_link)))
    make (λ c. search)

pub sound_holds : (m : Machine) → sound m ≡ true → Sound m
sound_holds m = (sound_link m).holds

pub holds_sound : (m : Machine) → Sound m → sound m ≡ true
holds_sound m = (sound_link m).passes
