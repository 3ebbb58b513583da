-- What is known of a Send whose tests pass.
use Prim.Native.Nat.{ℕ, ◌+◌, ◌*◌, ◌/◌, ◌≤◌, ◌<◌}
use mathlib.Core.Path.{◌≡◌, sym, ap, ◌∙◌}
use mathlib.Core.Bool.{false}
use mathlib.Core.List.{List}
use native.Mathlib.Decide.{dec_lt}
use native.Mathlib.Omega.{arith}
use lib.ListN.{length, get_or, length-drop}
use borrow.Author.Tests.{ltb-true, leb-true, eqb-false, not-true}
use Rattle.model.specs.declared.Machine.{Machine}
use Rattle.model.specs.Constants.{PAGE}
use Rattle.model.specs.State.{State, same_page, mailbox_at, own_mailbox}
use Rattle.model.specs.Sound.{Sound}
use Rattle.model.specs.Rights.{page_of}
use Rattle.model.specs.Memory.{base_of, loaded, tx_words, tx_word}
use Rattle.model.specs.Reply.{passes, is_other}
use Rattle.model.specs.Send.{send_to, send_length, send_base, send_verdict, send_effect, copied}
use Rattle.model.specs.Laws.{Copies}
use Rattle.isa.proofs.Tests.{not_both, and_left, and_right}
use Rattle.model.proofs.Same.{eq_same_vm}
use Rattle.model.proofs.Paste.{paste_front, paste_inside, paste_behind}
use Rattle.model.proofs.Reply.{need_test, need_rest, answer_passes}

pub record MessagePassed (m : Machine) : Type 0 where
  pub to_other : ((send_to m).0 < m.n) × (send_to m ≡ m.current → ⊥)
  pub in_range : (1 ≤ send_length m) × (send_length m ≤ PAGE)

pub message_passed : (m : Machine) → send_verdict m ≡ passes → MessagePassed m
unfolding send_verdict send_to is_other
message_passed m e =
    let to = need_test _ _ _ e in
    let range = need_test _ _ _ (need_rest _ _ _ e) in
    record {
      to_other = (ltb-true _ _ (and_left _ _ to), λ q. not_both (eq_same_vm q) (not-true _ (and_right _ _ to)));
      in_range = (leb-true _ _ (and_left _ _ range), leb-true _ _ (and_right _ _ range));
    }

-- the receiver's RX page is inside memory, and the caller's TX page has enough words
pub send_fits : (s : State) → length s.memory ≡ PAGE * s.machine.m → Sound s.machine → send_verdict s.machine ≡ passes
    → (send_base s.machine + send_length s.machine ≤ length s.memory) × (send_length s.machine ≤ length (tx_words s))
unfolding send_base base_of tx_words own_mailbox
send_fits s whole sound e =
    let m = s.machine in
    let known = message_passed m e in
    let small : send_length m ≤ 1024 = known.in_range.1 in
    let rx : (mailbox_at m.mailboxes (send_to m)).rx.0 < m.m = (sound.mailboxes_below (send_to m).0 known.to_other.0).1 in
    let tx : (mailbox_at m.mailboxes m.current).tx.0 < m.m = (sound.mailboxes_below m.current.0 sound.current_below).0 in
    (omega arith, simp length-drop (omega arith))

send_memory : (s : State) → send_verdict s.machine ≡ passes → (send_effect s).memory ≡ copied s
unfolding send_effect
send_memory s e = ap (λ (t : State). t.memory) (answer_passes s _ e)

-- the words of TX, as many as the length says, and no other word
pub copies : (s : State) → length s.memory ≡ PAGE * s.machine.m → Sound s.machine → send_verdict s.machine ≡ passes → Copies s
unfolding tx_word copied
copies s whole sound e =
    let fits = send_fits s whole sound e in
    let at : (x : ℕ) → get_or (send_effect s).memory x 0 ≡ get_or (copied s) x 0 =
    λ x. ap (λ (l : List ℕ). get_or l x 0) (send_memory s e) in
    record {
      is_copied = λ i h. at _ ∙ paste_inside s.memory _ (tx_words s) _ fits.0 fits.1 0 i h;
      rest_stays = λ x h. at x ∙ paste_behind s.memory _ (tx_words s) _ fits.0 fits.1 0 x h;
      front_stays = λ x h. at x ∙ paste_front s.memory _ (tx_words s) _ fits.0 fits.1 0 x h;
    }

-- so a word on another page than the receiver's RX page stays
pub other_pages_stay : (s : State) → length s.memory ≡ PAGE * s.machine.m → Sound s.machine → send_verdict s.machine ≡ passes
    → (x : ℕ) → same_page (page_of x) (mailbox_at s.machine.mailboxes (send_to s.machine)).rx ≡ false
    → loaded (copied s) x ≡ loaded s.memory x
unfolding loaded send_base base_of same_page
other_pages_stay s whole sound e x other =
    let known = copies s whole sound e in
    let rx = (mailbox_at s.machine.mailboxes (send_to s.machine)).rx in
    let short : send_length s.machine ≤ 1024 = (message_passed s.machine e).in_range.1 in
    let elsewhere : x / 1024 ≡ rx.0 → ⊥ = eqb-false _ _ other in
    let at : get_or (copied s) x 0 ≡ get_or (send_effect s).memory x 0 = ap (λ (l : List ℕ). get_or l x 0) (sym (send_memory s e)) in
    elim (dec_lt x (1024 * rx.0)) [
      | yes l ↦ at ∙ known.front_stays x l
      | no l ↦ at ∙ known.rest_stays x (omega arith)
    ]
