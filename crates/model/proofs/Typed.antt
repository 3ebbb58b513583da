-- Every machine of the code's type is Shaped: the type of an array gives its length, and each of its elements is of the
-- element's type.
-- Assumes nothing.
use Prim.Native.Nat.{ℕ, zero, suc, ◌<◌, ◌≤◌}
use mathlib.Core.Path.{◌≡◌}
use mathlib.Core.List.{List, [], ◌∷◌}
use native.Mathlib.Omega.{arith}
use lib.ListN.{length, get_or}
use mir.Val.{Val}
use denote.RattleType.{RattleType}
use denote.Shadow.{shadow}
use denote.Laws.{Is}
use denote.Array.{Array, each}
use denote.Struct.Field.{Field, row_field}
use denote.Builtin.{u32}
use Rattle.model.specs.declared.Registers.{Registers}
use Rattle.model.specs.declared.Transaction.{Transaction}
use Rattle.model.specs.declared.Machine.{Machine}
use Rattle.model.specs.Constants.{GUESTS, PAGES, HANDLES, PLACES}
use Rattle.model.specs.State.{vm, handle, registers_at, transaction_at}
use Rattle.model.specs.Shaped.{Shaped}
use Rattle.model.specs.contracts.PageId as of-page
use Rattle.model.specs.contracts.Registers as of-registers
use Rattle.model.specs.contracts.Mailbox as of-mailbox
use Rattle.std.specs.contracts.option.Option as of-option
use Rattle.model.specs.contracts.Message as of-message
use Rattle.model.specs.contracts.PageRecord as of-record
use Rattle.model.specs.contracts.Transaction as of-transaction
use Rattle.model.specs.contracts.Machine as of-machine

-- x is a value of the code's type F: the code can hold it, as some values of the machine that it runs on
abbrev pub Typed : (F : Field) → F.Value → Type 0
Typed F x = (vs : List Val) × Is F.row (F.into x) vs

-- Arrays.

-- what is so of every value of the element's type is so at each place of an array, if it is so of what is read past the end
module _ (R : RattleType) (Fact : R.Denot → Type 0) (typed : (a : R.Denot) (vs : List Val) → Is R a vs → Fact a) where
  at_each : (l : List R.Denot) (us : List Val) → shadow (each R.Denot R.own_val l us)
      → (k : ℕ) (default : R.Denot) → (length l ≤ k → Fact default) → Fact (get_or l k default)
  at_each [] us e k default past = past (omega arith)
  at_each (a ∷ l) [] e k default past = absurd e
  at_each (a ∷ l) (u ∷ us) e zero default past = typed a (u ∷ []) e.0
  at_each (a ∷ l) (u ∷ us) e (suc k) default past = at_each l us e.1 k default (λ out. past (omega arith))

  pub at_any : (n : ℕ) (l : List R.Denot) (vs : List Val) → Is (Array R n) l vs
      → (k : ℕ) (default : R.Denot) → (n ≤ k → Fact default) → Fact (get_or l k default)
  at_any n l vs e k default past = at_each l e.0 e.1.1 k default (λ out. past (omega (arith, e.1.0.1)))

-- an array in a struct: its length, and its elements
module _ (R : RattleType) (n : ℕ) (l : List R.Denot) (t : Typed (row_field (Array R n)) l) where
  pub typed_length : length l ≡ n
  typed_length = t.1.1.0.1

  pub typed_at : (k : ℕ) → k < n → (default : R.Denot) → Typed (row_field R) (get_or l k default)
  typed_at k low default =
      at_any R (λ a. Typed (row_field R) a) (λ a vs e. (vs, e)) n l t.0 t.1 k default (λ out. absurd (omega arith))

-- The machine. A value of a struct's type is the struct's values and, last, its parts in the order in which they are declared.

eight_r : (file : Registers) → Typed of-registers.the_field file → length file.r ≡ 8
eight_r file (_, (_, (_, (r, _)))) = typed_length u32 8 file.r (_, r)

eight_pages : (t : Transaction) → Typed of-transaction.the_field t → length t.pages ≡ PLACES
eight_pages t (_, (_, (_, (_, (pages, _))))) = typed_length of-page.the_row PLACES t.pages (_, pages)

pub typed_shaped : (m : Machine) → Typed of-machine.the_field m → Shaped m
unfolding registers_at transaction_at
typed_shaped m (_, (_, (_, (_, (_, (files, (boxes, (slots, (records, (transactions, _)))))))))) = record {
  eight_files = typed_length of-registers.the_row GUESTS m.registers (_, files);
  eight_registers = λ g low.
      eight_r (registers_at m.registers (vm g))
      (typed_at of-registers.the_row GUESTS m.registers (_, files) g low _);
  eight_mailboxes = typed_length of-mailbox.the_row GUESTS m.mailboxes (_, boxes);
  eight_inboxes = typed_length (of-option.the_row of-message.the_row) GUESTS m.inboxes (_, slots);
  sixty_four_records = typed_length of-record.the_row PAGES m.records (_, records);
  sixteen_transactions = typed_length of-transaction.the_row HANDLES m.transactions (_, transactions);
  eight_places = λ h low.
      eight_pages (transaction_at m.transactions (handle h))
      (typed_at of-transaction.the_row HANDLES m.transactions (_, transactions) h low _);
}
