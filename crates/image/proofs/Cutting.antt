-- The laws of cutting a record out of the bytes, and of what it says.
use Prim.Native.Nat.{ℕ, zero, suc, ◌+◌, ◌*◌, ◌%◌, ◌≤◌}
use mathlib.Core.Path.{◌≡◌, refl, sym, ap, ◌∙◌}
use mathlib.Core.Bool.{Bool, true, false}
use mathlib.Core.List.{List}
use native.Mathlib.Nat.{le_of_suc-le}
use native.Mathlib.Numerals.{add-one}
use native.Mathlib.Omega.{arith}
use lib.ListN.{length, take, get_or}
use lib.Dec.{eqb}
use Rattle.std.specs.Prelude.{◌||◌, Some, None}
use Rattle.std.specs.List.{list_any}
use Rattle.std.proofs.lemmas.List.{take_all}
use Rattle.std.proofs.lemmas.List.Folds.{list_any_more}
use Rattle.std.proofs.lemmas.Grind.{common_steps}
use Rattle.isa.specs.Tests.{◌and◌, ◌or◌}
use Rattle.model.specs.Tests.{some}
use Rattle.image.specs.declared.Record.{Record}
use Rattle.image.specs.declared.Content.TheVariants.{Words}
use Rattle.image.specs.Pieces.{among, record_from, end_of, cut}
use Rattle.image.specs.Contents.{has_form, has_words, counts, described, owned, words, budget, content_of}

-- Whether a kind is among those given, one after the other.

same_either : (a b : Bool) → (a || b) ≡ (a or b)
unfolding ◌or◌
same_either true b = refl
same_either false b = refl

any_taken : (kinds : List ℕ) (kind n : ℕ) → n ≤ length kinds
    → list_any (λ k. eqb k kind) (take n kinds) ≡ some n (λ i. eqb (get_or kinds i 0) kind)
unfolding some
any_taken kinds kind zero h = refl
any_taken kinds kind (suc n) h =
    let on = any_taken kinds kind n (le_of_suc-le h) in
    let more : list_any (λ k. eqb k kind) (take (n + 1) kinds)
    ≡ (list_any (λ k. eqb k kind) (take n kinds) || eqb (get_or kinds n 0) kind)
    = list_any_more (λ k. eqb k kind) kinds n 0 (omega arith) in
    rw (← add-one n, more, on) (same_either _ _)

pub among_any : (kinds : List ℕ) (kind : ℕ) → list_any (λ k. eqb k kind) kinds ≡ among kinds kind
unfolding among
among_any kinds kind =
    ap (list_any (λ k. eqb k kind)) (sym (take_all _ kinds (omega arith))) ∙ any_taken kinds kind (length kinds) (omega arith)

-- Cutting.

-- a whole record begins behind its four bytes, and ends inside the image
pub cut_whole :
    (kinds bytes : List ℕ) (at : ℕ) {r : Record} →
    cut kinds bytes at ≡ Some r →
    (r.payload ≡ at + 4) × (end_of r ≤ length bytes)
unfolding record_from end_of cut ◌and◌
cut_whole kinds bytes at e = grind (arith, common_steps)

-- The form of a record, told by the answer to whether it has it.

pub form_size : (r : Record) (kind size : ℕ) {b : Bool} → b ≡ has_form r kind size → b ≡ true → r.size ≡ size
unfolding has_form ◌and◌
form_size r kind size told e = grind (arith, common_steps)

-- an address and one or more whole words
pub record WholeWords (size : ℕ) : Type 0 where
  pub least : 8 ≤ size
  pub whole : size % 4 ≡ 0

pub words_size : (r : Record) {b : Bool} → b ≡ has_words r → b ≡ true → WholeWords r.size
unfolding has_words ◌and◌
words_size r told e = record { least = grind (arith, common_steps); whole = grind (arith, common_steps) }

-- What a record says, by the first form that it has.

pub says_counts : (bytes : List ℕ) (r : Record) → has_form r 1 4 ≡ true → Some (counts bytes r.payload) ≡ content_of bytes r
unfolding content_of
says_counts bytes r is1 = rw is1

module _ (bytes : List ℕ) (r : Record) (not1 : has_form r 1 4 ≡ false) where
  pub says_described : has_form r 2 10 ≡ true → Some (described bytes r.payload) ≡ content_of bytes r
  unfolding content_of
  says_described is2 = rw (not1, is2)

  module _ (not2 : has_form r 2 10 ≡ false) where
    pub says_owned : has_form r 3 4 ≡ true → Some (owned bytes r.payload) ≡ content_of bytes r
    unfolding content_of
    says_owned is3 = rw (not1, not2, is3)

    module _ (not3 : has_form r 3 4 ≡ false) where
      pub says_words : has_words r ≡ true → Some (words bytes r.payload r.size) ≡ content_of bytes r
      unfolding content_of
      says_words is4 = rw (not1, not2, not3, is4)

      module _ (not4 : has_words r ≡ false) where
        pub says_budget : has_form r 5 4 ≡ true → Some (budget bytes r.payload) ≡ content_of bytes r
        unfolding content_of
        says_budget is5 = rw (not1, not2, not3, not4, is5)

        pub says_nothing : has_form r 5 4 ≡ false → None ≡ content_of bytes r
        unfolding content_of
        says_nothing not5 = rw (not1, not2, not3, not4, not5)

-- the words lie behind the address, up to the record's end
pub words_inside :
    (bytes : List ℕ) (r : Record) {x k : ℕ} →
    content_of bytes r ≡ Some (Words x k) →
    r.payload + 4 + 4 * k ≤ end_of r
unfolding content_of has_form has_words end_of ◌and◌
words_inside bytes r e = grind (arith, common_steps)
