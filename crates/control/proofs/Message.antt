-- What the proofs of a message share: the page that is lent to the copier, and what Send's tests come to, where R1 names a
-- guest.
use Prim.Native.Nat.{ℕ, ◌+◌, ◌≤◌}
use mathlib.Core.Path.{◌≡◌, refl}
use mathlib.Core.Bool.{Bool, true, false, not}
use mathlib.Core.List.{List, ◌++◌, append_assoc}
use native.Mathlib.Omega.{arith}
use lib.Dec.{leb}
use lib.ListN.{length, take, drop, length-drop, take-append-drop}
use lib.Seq.{length-take-le, drop-append-le, drop-drop}
use borrow.Rule.Slice.PartMut.{put_mid}
use borrow.Author.Tests.{le-leb}
use Rattle.std.specs.Prelude.{Option, None, Some, is_some}
use Rattle.isa.specs.Tests.{◌and◌}
use Rattle.model.specs.declared.VmId.{VmId}
use Rattle.model.specs.declared.Message.{Message}
use Rattle.model.specs.declared.Machine.{Machine}
use Rattle.model.specs.Constants.{PAGE, INVALID, BUSY}
use Rattle.model.specs.State.{same_vm, argument, inbox_at, is_empty}
use Rattle.model.specs.Reply.{passes, refused, need, is_other}
use Rattle.model.specs.Send.{send_to, send_length, send_verdict}
use Rattle.parts.specs.Numbers.{vm_of}
use Rattle.parts.proofs.Named.{vm_found}

-- a page that is lent from the middle of memory, and comes back with new words over its first ones
pub page_back : (mem new : List ℕ) (base k : ℕ) → length new ≤ k → base + k ≤ length mem
    → put_mid base k mem (new ++ drop (length new) (take k (drop base mem))) ≡ take base mem ++ new ++ drop (base + length new) mem
page_back mem new base k h b =
    let page : length (take k (drop base mem)) ≡ k = length-take-le k (drop base mem) (omega (arith, length-drop base mem)) in
    rw (
      append_assoc new,
      ← drop-append-le (length new) (take k (drop base mem)) (drop k (drop base mem)) (omega arith),
      take-append-drop,
      drop-drop,
      append_assoc,
    )

not_empty : (inbox : Option Message) → is_empty inbox ≡ not (is_some inbox)
unfolding is_empty
not_empty None = refl
not_empty (Some message) = refl

-- R1 is read, and names guest g; then it is asked whether that is the caller
module _ (m : Machine) {read : ℕ} {found : Option VmId} {g : VmId} {own : Bool}
    (argued : read ≡ argument m 1) (looked : found ≡ vm_of read m.n) (is : found ≡ Some g) (test : own ≡ same_vm g m.current) where
  -- the tests that are left
  rest : send_verdict m
      ≡ need (not own) INVALID
      (need (leb 1 (argument m 2) and leb (argument m 2) PAGE) INVALID (need (not (is_some (inbox_at m.inboxes g))) BUSY passes))
  unfolding send_verdict send_to send_length is_other ◌and◌
  rest =
      let named : vm_of (argument m 1) m.n ≡ Some g = rw (← argued, ← looked) is in
      let guest = vm_found (argument m 1) m.n named in
      rw (guest.1, guest.0, test, not_empty)

  pub to_itself : own ≡ true → refused INVALID ≡ send_verdict m
  unfolding need
  to_itself e = rw (rest, e)

  -- the receiver is another guest, and the length is in range; then it is asked whether its inbox is full
  module _ (other : own ≡ false) (some : 1 ≤ argument m 2) (fits : argument m 2 ≤ PAGE)
      {inbox : Option Message} {full : Bool} (there : inbox ≡ inbox_at m.inboxes g) (asked : full ≡ is_some inbox) where
    last : send_verdict m ≡ need (not full) BUSY passes
    unfolding need ◌and◌
    last = rw (rest, other, le-leb 1 _ some, le-leb (argument m 2) PAGE fits, asked, there)

    pub to_busy : full ≡ true → refused BUSY ≡ send_verdict m
    unfolding need
    to_busy e = rw (last, e)

    pub to_free : full ≡ false → passes ≡ send_verdict m
    unfolding need
    to_free e = rw (last, e)
