-- What holds over every number, and no worked case can show. Proved in `proofs/Laws.antt`.
use Rattle.std.specs.Prelude.{ℕ, ◌+◌, ◌≤◌, ◌<◌, ◌≡◌, true, false, List, [], ◌∷◌, get_or, None}
use Rattle.model.specs.declared.Kind.{Kind}
use Rattle.model.specs.declared.Handle.{Handle}
use Rattle.model.specs.declared.Transaction.{Transaction}
use Rattle.model.specs.declared.Answer.TheVariants.{Done, WrongMemory, Unsound}
use Rattle.model.specs.Constants.{GUESTS}
use Rattle.model.specs.State.{State, registers_at, register, transaction_at, handle}
use Rattle.model.specs.Shaped.{Shaped}
use Rattle.model.specs.Memory.{tx_word}
use Rattle.model.specs.Blank.{blank}
use Rattle.model.specs.Reply.{passes}
use Rattle.model.specs.Send.{send_verdict, send_effect, send_base, send_length}
use Rattle.model.specs.Sending.{is_free, lowest_free, sending_verdict, sending_effect, sent_transaction, sent_page, sent_count}
use Rattle.model.specs.HandleCall.{lookup}
use Rattle.model.specs.Entries.{check_of}

-- a handle word above 15 finds nothing
abbrev pub NothingAboveLast : Type 0
NothingAboveLast = (transactions : List Transaction) (w : ℕ) → 15 < w → lookup transactions w ≡ None

-- the pages of a sending that passes strictly ascend
abbrev pub SentPagesAscend : Type 0
SentPagesAscend =
    (kind : Kind) (s : State) → sending_verdict kind s ≡ passes
    → (i j : ℕ) → i < j → j < sent_count s → (sent_page s i).0 < (sent_page s j).0

-- a sending takes handle h, which is the lowest free one, and no other; R2 names it
pub record TakesLowestFree (kind : Kind) (s : State) (h : Handle) : Type 0 where
  pub is_handle : h.0 ≤ 15
  pub was_free : is_free (transaction_at s.machine.transactions h).deal ≡ true
  pub lower_are_live : (k : ℕ) → k < h.0 → is_free (transaction_at s.machine.transactions (handle k)).deal ≡ false
  pub is_taken : transaction_at (sending_effect kind s).machine.transactions h ≡ sent_transaction kind s
  pub others_stay :
      (k : ℕ) → (k ≡ h.0 → ⊥)
      → transaction_at (sending_effect kind s).machine.transactions (handle k) ≡ transaction_at s.machine.transactions (handle k)
  pub is_in_r2 : register (registers_at (sending_effect kind s).machine.registers s.machine.current) 2 ≡ h.0

abbrev pub LowestFreeIsTaken : Type 0
LowestFreeIsTaken =
    (kind : Kind) (s : State) → Shaped s.machine → s.machine.current.0 < GUESTS
    → sending_verdict kind s ≡ passes → TakesLowestFree kind s (lowest_free s.machine.transactions)

-- a Send that passes puts the words of TX, as many as its length says, at the start of the receiver's RX page, and
-- changes no other word: not those of the RX page from the length on
pub record Copies (s : State) : Type 0 where
  pub is_copied :
      (i : ℕ) → i < send_length s.machine
      → get_or (send_effect s).memory (send_base s.machine + i) 0 ≡ tx_word s i
  pub rest_stays :
      (x : ℕ) → send_base s.machine + send_length s.machine ≤ x
      → get_or (send_effect s).memory x 0 ≡ get_or s.memory x 0
  pub front_stays :
      (x : ℕ) → x < send_base s.machine → get_or (send_effect s).memory x 0 ≡ get_or s.memory x 0

abbrev pub SendCopiesItsLength : Type 0
SendCopiesItsLength =
    (s : State) → check_of s.machine s.memory ≡ Done → send_verdict s.machine ≡ passes → Copies s

-- the length of memory is judged first, of any machine: with no memory the blank one is unsound, with any other memory it
-- has too much
pub record BlankIsRefused : Type 0 where
  pub without_memory : check_of blank [] ≡ Unsound
  pub with_memory : (w : ℕ) (memory : List ℕ) → check_of blank (w ∷ memory) ≡ WrongMemory
