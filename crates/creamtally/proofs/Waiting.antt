-- The ways out of message, and what each gives; that the words that wait lie inside memory.
use Rattle.model.specs.State.{message, mailbox_at, inbox_at, length_of}
use Rattle.std.specs.Prelude.{Option, None, Some}
use Rattle.model.specs.declared.Message.{Message}
use Prim.Native.Nat.{ℕ, ◌+◌, ◌*◌, ◌-◌, ◌≤◌, ◌<◌}
use mathlib.Core.Path.{◌≡◌, refl, sym, ◌∙◌}
use mathlib.Core.Bool.{true, false}
use mathlib.Core.List.{List, []}
use native.Mathlib.Nat.{add-sub_cancel_left}
use native.Mathlib.Omega.{arith}
use lib.ListN.{length, take, drop}
use borrow.Author.Tests.{lt-ltb, le-ltb}
use Rattle.model.specs.declared.VmId.{VmId}
use Rattle.model.specs.declared.PageId.{PageId}
use Rattle.model.specs.declared.Mailbox.{Mailbox}
use Rattle.model.specs.declared.Machine.{Machine}
use Rattle.model.specs.declared.Answer.{Answer}
use Rattle.model.specs.declared.Answer.TheVariants.{Done}
use Rattle.model.specs.Constants.{PAGE, GUESTS}
use Rattle.model.specs.Answer.{is_done}
use Rattle.model.specs.Sound.{Sound}
use Rattle.model.specs.Memory.{base_of}
use Rattle.model.specs.Entries.{check_of, waiting, message_of, message_place}
use Rattle.model.proofs.Entries.{is_done_lem, done_memory, done_sound}
use Rattle.isa.specs.Tests.{◌and◌}

-- a message fits a page, and none does too
fits_page : (inbox : Option Message) → ((words : ℕ) (sender : VmId) → inbox ≡ Some (message words sender) → (1 ≤ words) × (words ≤ PAGE))
    → length_of inbox ≤ PAGE
unfolding length_of
fits_page None in_range = omega arith
fits_page (Some waits) in_range = (in_range waits.length waits.sender refl).1

-- so many words from a page's start on: they lie inside memory, and are what waits for guest g, where it waits
pub record Waits (m : Machine) (memory : List ℕ) (g : VmId) (p : PageId) (words : ℕ) : Type 0 where
  pub inside : PAGE * p.0 + words ≤ length memory
  pub place : PAGE * p.0 ≡ message_place m memory g
  pub part : take (PAGE * p.0 + words - PAGE * p.0) (drop (PAGE * p.0) memory) ≡ message_of m memory g

-- a part that begins so many words on, and one that begins at the start
pub begins : {x y : ℕ} (at : ℕ × ℕ) → x ≡ y → ◌≡◌ {A = ℕ × ℕ} (at.0, x * 4 + at.1) (at.0, at.1 + y * 4)
begins {y = y} at q = rw q (let swap : y * 4 + at.1 ≡ at.1 + y * 4 = omega arith in λ i. (at.0, swap i))

pub begins_first : {x : ℕ} (at : ℕ × ℕ) → 0 ≡ x → ◌≡◌ {A = ℕ × ℕ} at (at.0, at.1 + x * 4)
begins_first at q = rw (← q) (let same : at.1 ≡ at.1 + 0 = omega arith in λ i. (at.0, same i))

module _ (m : Machine) (memory : List ℕ) (g : VmId) (answer : Answer) (e : answer ≡ check_of m memory) where
  pub message_refused : is_done answer ≡ false → [] ≡ message_of m memory g
  unfolding message_of
  message_refused d = rw (← e, d)

  pub refused_place : is_done answer ≡ false → 0 ≡ message_place m memory g
  unfolding message_place ◌and◌
  refused_place d = rw (← e, d)

  module _ (d : is_done answer ≡ true) where
    -- the check answered 0, so the machine is sound and its memory fits
    checked : check_of m memory ≡ Done
    checked = sym e ∙ is_done_lem answer d

    whole : Sound m
    whole = done_sound m memory checked

    pub message_of_nobody : m.n ≤ g.0 → [] ≡ message_of m memory g
    unfolding message_of waiting
    message_of_nobody out = rw (← e, d, le-ltb g.0 m.n out)

    pub place_of_nobody : m.n ≤ g.0 → 0 ≡ message_place m memory g
    unfolding message_place ◌and◌
    place_of_nobody out = rw (← e, d, le-ltb g.0 m.n out)

    pub guest_below : g.0 < m.n → g.0 < GUESTS
    guest_below below = let few = whole.counts_in_range.eight_guests in omega arith

    -- what waits, read part by part
    pub message_waits : {box : Mailbox} {words : ℕ} → g.0 < m.n → words ≡ length_of (inbox_at m.inboxes g) → box ≡ mailbox_at m.mailboxes g → Waits m memory g box.rx words
    unfolding message_of waiting message_place base_of ◌and◌
    message_waits below count kept =
        let page : (mailbox_at m.mailboxes g).rx.0 < m.m = (whole.mailboxes_below g.0 below).1 in
        let short = fits_page (inbox_at m.inboxes g) (λ words sender full. whole.lengths_in_range g.0 words sender below full) in
        record {
          inside = rw (kept, count) (omega (arith, done_memory m memory checked));
          place = rw (kept, ← e, d, lt-ltb g.0 m.n below);
          part = rw (add-sub_cancel_left, count, kept, ← e, d, lt-ltb g.0 m.n below);
        }
