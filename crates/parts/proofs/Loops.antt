-- The laws of loops that count up: one that tests every number, and one that sets the values at n places. Then of lists: a list
-- asked by number, and what a chain of iterators that ends in `.all(..)` answers.
use Prim.Native.Nat.{ℕ, zero, suc, ◌+◌, ◌-◌, ◌≤◌, ◌<◌}
use Rattle.std.proofs.Common.{arith}
use mathlib.Core.Path.{◌≡◌, refl, sym, ap, ◌∙◌}
use mathlib.Core.Bool.{Bool, true, false}
use mathlib.Core.List.{List, [], ◌∷◌}
use native.Mathlib.Nat.{le_antisymm, le_of_suc-le, le_of_suc-le-suc}
use native.Mathlib.Numerals.{add-one}
use native.Mathlib.Decide.{dec_lt}
use borrow.Author.Tests.{lt-ltb, le-ltb}
use lib.ListN.{set, length, take, drop, get_or, length-drop}
use lib.Seq.{get_or-drop}
use lib.Dec.{ltb}
use denote.Ref.{Bor}
use denote.Param.Members.{Mut}
use Rattle.std.specs.Fn.{Called}
use Rattle.std.specs.Iterator.{ChecksAll}
use Rattle.std.specs.Slice.Iter.{iter_rest}
use Rattle.std.specs.declared.slice.Iter.{Iter}
use Rattle.std.specs.declared.iter.Take.{Take}
use Rattle.std.specs.declared.iter.Skip.{Skip}
use Rattle.std.specs.Iterator.Adapters.{take_source, take_count, take_steps, skip_source, skip_count, skip_steps}
use Rattle.std.specs.declared.option.Option.{Option}
use Rattle.std.specs.List.{list_all, zip, range_with_len, IsAllAdjacentAnswer}
use Rattle.std.proofs.lemmas.List.FromFn.{length-range_with_len, get_or-range_with_len}
use Rattle.std.proofs.iter.Yields.{fronts}
use Rattle.std.proofs.lemmas.Iterator.{YieldsList, YieldsList-from_slice, YieldsList-from_take}
use Rattle.std.proofs.lemmas.Iterator.Adapters.{YieldsList-from_skip}
use Rattle.std.proofs.lemmas.Iterator.Search.{all_from_yields_List}
use Rattle.std.proofs.lemmas.List.{take_all}
use Rattle.std.proofs.lemmas.List.Folds.{list_all_more}
use Rattle.std.proofs.Math.Nat.{le_of_eq}
use Rattle.std.proofs.Math.ListN.{get_or-eq_default}
use Rattle.std.specs.Prelude.{◌&&◌}
use Rattle.isa.specs.Tests.{◌and◌, ◌or◌}
use Rattle.isa.proofs.Tests.{not_both, cannot_pass, and_intro, or_left}
use Rattle.model.specs.Tests.{every, set_each}
use Rattle.model.proofs.Tests.{every_at, at_every, every_same, both_and}

-- Every number below n passes the test: it begins, it goes on past i, it stops at i, it has come to the end.

pub every_none : (f : ℕ → Bool) → every 0 f ≡ true
unfolding every
every_none f = refl

pub every_more : (i : ℕ) (f : ℕ → Bool) → every i f ≡ true → f i ≡ true → every (i + 1) f ≡ true
unfolding every
every_more i f e p = rw (add-one i) (and_intro e p)

pub every_stops : {i n : ℕ} (f : ℕ → Bool) → i < n → f i ≡ false → every n f ≡ false
every_stops f h p = cannot_pass (λ e. not_both (every_at _ f e _ h) p)

pub every_whole : {i n : ℕ} (f : ℕ → Bool) → i ≤ n → n ≤ i → every i f ≡ true → every n f ≡ true
every_whole f h l e = rw (le_antisymm l h) e

-- the same of a loop that asks a function, whose answer r is the test of i, and stops at `if !f(..)`

pub asked_stops : {i n : ℕ} {r : Bool} (f : ℕ → Bool) → i < n → r ≡ f i → r ≡ false → false ≡ every n f
asked_stops f b asked e = sym (every_stops f b (sym asked ∙ e))

pub asked_more : (i : ℕ) {r : Bool} (f : ℕ → Bool) → every i f ≡ true → r ≡ f i → r ≡ true → every (i + 1) f ≡ true
asked_more i f passed asked e = every_more i f passed (sym asked ∙ e)

pub asked_whole : {i n : ℕ} (f : ℕ → Bool) → (i ≤ n) × (every i f ≡ true) → n ≤ i → true ≡ every n f
asked_whole f inv end = sym (every_whole f inv.0 end inv.1)

-- Values set at n places: it begins, it goes on past i, it has come to the end.

pub set_none : {A : Type 0} (place : ℕ → ℕ) (value : ℕ → A) (l : List A) → l ≡ set_each 0 place value l
unfolding set_each
set_none place value l = refl

pub set_more : {A : Type 0} (i : ℕ) (place : ℕ → ℕ) (value : ℕ → A) (l : List A) {now : List A}
    → now ≡ set_each i place value l → set now (place i) (value i) ≡ set_each (i + 1) place value l
unfolding set_each
set_more i place value l e = rw (add-one i, e)

pub set_whole : {A : Type 0} {i n : ℕ} (place : ℕ → ℕ) (value : ℕ → A) (l : List A) {now : List A}
    → i ≤ n → n ≤ i → now ≡ set_each i place value l → now ≡ set_each n place value l
set_whole place value l h b e = rw (le_antisymm b h) e

-- A list asked by number below n, or its first n elements one after the other.

pub every_taken : {A : Type 0} (d : A) (p : A → Bool) (xs : List A) (n : ℕ) → n ≤ length xs
    → list_all p (take n xs) ≡ every n (λ k. p (get_or xs k d))
unfolding every
every_taken d p xs zero h = refl
every_taken d p xs (suc n) h =
    let on = every_taken d p xs n (le_of_suc-le h) in
    let more : list_all p (take (n + 1) xs) ≡ (list_all p (take n xs) && p (get_or xs n d)) = list_all_more p xs n d (omega arith) in
    rw (← add-one n, more, on) (both_and _ _)

-- all of them
pub every_listed : {A : Type 0} (d : A) (p : A → Bool) (xs : List A) {n : ℕ} → length xs ≡ n
    → list_all p xs ≡ every n (λ k. p (get_or xs k d))
every_listed d p xs e = ap (list_all p) (sym (take_all _ xs (le_of_eq e))) ∙ every_taken d p xs _ (le_of_eq (sym e))

and_passed : (a : Bool) → a and true ≡ a
unfolding ◌and◌
and_passed true = refl
and_passed false = refl

every_past : (m n : ℕ) (f : ℕ → Bool) → m ≤ n → ((k : ℕ) → m ≤ k → f k ≡ true) → every n f ≡ every m f
unfolding every
every_past m zero f h past = let none : m ≡ 0 = omega arith in rw none
every_past m (suc n) f h past =
    elim (dec_lt n m) [
      | yes b ↦ let whole : m ≡ suc n = omega arith in rw whole
      | no b ↦ rw (past n (omega arith), every_past m n f (omega arith) past) (and_passed _)
    ]

-- the first n, or all of them if there are fewer, where what is read past the end passes
pub every_among : {A : Type 0} (d : A) (p : A → Bool) (xs : List A) (n : ℕ) → p d ≡ true
    → list_all p (take n xs) ≡ every n (λ k. p (get_or xs k d))
every_among d p xs n passes =
    elim (dec_lt (length xs) n) [
      | yes b ↦
          ap (list_all p) (take_all n xs (omega arith))
          ∙ every_listed d p xs refl
          ∙ sym (every_past (length xs) n _ (omega arith) (λ k out. ap p (get_or-eq_default xs d out) ∙ passes))
      | no b ↦ every_taken d p xs n (omega arith)
    ]

-- those from the n-th on
or_second : {a : Bool} (b : Bool) → a ≡ false → a or b ≡ b
unfolding ◌or◌
or_second b e = rw e

dropped_so_far : {A : Type 0} (d : A) (p : A → Bool) (xs : List A) (n j : ℕ) → j ≤ length xs
    → list_all p (take (j - n) (drop n xs)) ≡ every j (λ k. ltb k n or p (get_or xs k d))
unfolding every
dropped_so_far d p xs n zero h = let none : 0 - n ≡ 0 = omega arith in rw none
dropped_so_far d p xs n (suc j) h =
    let on = dropped_so_far d p xs n j (le_of_suc-le h) in
    elim (dec_lt j n) [
      | yes b ↦
          let none : suc j - n ≡ j - n = omega arith in
          rw (none, on) (sym (ap (λ (b : Bool). every j (λ k. ltb k n or p (get_or xs k d)) and b) (or_left (p (get_or xs j d)) (lt-ltb j n b)) ∙ and_passed _))
      | no b ↦
          let next : suc j - n ≡ (j - n) + 1 = omega arith in
          let here : n + (j - n) ≡ j = omega arith in
          let more : list_all p (take ((j - n) + 1) (drop n xs)) ≡ (list_all p (take (j - n) (drop n xs)) && p (get_or (drop n xs) (j - n) d)) = list_all_more p (drop n xs) (j - n) d (omega (arith, length-drop n xs)) in
          rw (next, more, on, get_or-drop n xs (j - n) d, here)
          (both_and _ _ ∙ ap (λ (b : Bool). every j (λ k. ltb k n or p (get_or xs k d)) and b) (sym (or_second (p (get_or xs j d)) (le-ltb j n (omega arith)))))
    ]

pub every_dropped : {A : Type 0} (d : A) (p : A → Bool) (xs : List A) (n : ℕ) {m : ℕ} → length xs ≡ m
    → list_all p (drop n xs) ≡ every m (λ k. ltb k n or p (get_or xs k d))
every_dropped d p xs n {m} e =
    ap (list_all p) (sym (take_all _ (drop n xs) (omega (arith, length-drop n xs)))) ∙ dropped_so_far d p xs n m (le_of_eq (sym e))

-- A chain of iterators that ends in `.all(test)`: its answer is the test of every number.

-- whatever it goes over
pub all_yielded :
    {S A B F : Type 0} {steps : S → Option A → S → Type 0} {v : A → B} {g : Mut F (A × Unit {0}) Bool} {s : S} {f : F}
    {r : Bool} {n : ℕ} {all : List B} (test : B → Bool) (d : B) (u : S) → ChecksAll steps g s f r u → YieldsList steps v s all →
    ((x : A) (b : Bool) (q : F) → Called g f (x, tt) b q → (q ≡ f) × (b ≡ test (v x))) → length all ≡ n →
    r ≡ every n (λ k. test (get_or all k d))
all_yielded test d u ran road asks long = all_from_yields_List test u _ _ ran road asks ∙ every_listed d test _ long

-- `xs.iter().all(test)`
pub all_listed :
    {A F : Type 0} {g : Mut F (Bor A × Unit {0}) Bool} {s : Iter A} {f : F} {r : Bool} {n : ℕ} (test : A → Bool) (d : A)
    (xs : List A) (u : Iter A) → ChecksAll fronts g s f r u → iter_rest s ≡ xs →
    ((x : Bor A) (b : Bool) (q : F) → Called g f (x, tt) b q → (q ≡ f) × (b ≡ test x.now)) → length xs ≡ n →
    r ≡ every n (λ k. test (get_or xs k d))
all_listed test d xs u ran here asks long = all_yielded test d u ran (YieldsList-from_slice _ here) asks long

-- `xs.iter().take(n).all(test)`
pub all_taken :
    {A F : Type 0} {g : Mut F (Bor A × Unit {0}) Bool} {s : Take (Iter A)} {f : F} {r : Bool} (n : ℕ) (test : A → Bool) (d : A)
    (xs : List A) (u : Take (Iter A)) → ChecksAll (take_steps fronts) g s f r u → iter_rest (take_source s) ≡ xs → take_count s ≡ n →
    ((x : Bor A) (b : Bool) (q : F) → Called g f (x, tt) b q → (q ≡ f) × (b ≡ test x.now)) → n ≤ length xs →
    r ≡ every n (λ k. test (get_or xs k d))
all_taken n test d xs u ran here first asks few =
    all_from_yields_List test u _ _ ran (YieldsList-from_take n (YieldsList-from_slice xs here) first) asks ∙ every_taken d test xs n few

-- and where a place behind the end passes
pub all_among :
    {A F : Type 0} {g : Mut F (Bor A × Unit {0}) Bool} {s : Take (Iter A)} {f : F} {r : Bool} (n : ℕ) (test : A → Bool) (d : A)
    (xs : List A) (u : Take (Iter A)) → ChecksAll (take_steps fronts) g s f r u → iter_rest (take_source s) ≡ xs → take_count s ≡ n →
    ((x : Bor A) (b : Bool) (q : F) → Called g f (x, tt) b q → (q ≡ f) × (b ≡ test x.now)) → test d ≡ true →
    r ≡ every n (λ k. test (get_or xs k d))
all_among n test d xs u ran here first asks passes =
    all_from_yields_List test u _ _ ran (YieldsList-from_take n (YieldsList-from_slice xs here) first) asks ∙ every_among d test xs n passes

-- `xs.iter().skip(n).all(test)`
pub all_skipped :
    {A F : Type 0} {g : Mut F (Bor A × Unit {0}) Bool} {s : Skip (Iter A)} {f : F} {r : Bool} {m : ℕ} (n : ℕ) (test : A → Bool)
    (d : A) (xs : List A) (u : Skip (Iter A)) → ChecksAll (skip_steps fronts) g s f r u → iter_rest (skip_source s) ≡ xs → skip_count s ≡ n →
    ((x : Bor A) (b : Bool) (q : F) → Called g f (x, tt) b q → (q ≡ f) × (b ≡ test x.now)) → length xs ≡ m →
    r ≡ every m (λ k. ltb k n or test (get_or xs k d))
all_skipped n test d xs u ran here first asks long =
    all_from_yields_List test u _ _ ran (YieldsList-from_skip n (YieldsList-from_slice xs here) first) asks ∙ every_dropped d test xs n long

-- `xs.is_sorted_by(test)`: the answer is the test of every element with the next.
pub all_adjacent : {A : Type 0} (test : A → A → Bool) (d : A) (xs : List A) (r : Bool) {n : ℕ}
    → IsAllAdjacentAnswer (λ x y b. b ≡ test x y) xs r → length xs ≡ n
    → r ≡ every (n - 1) (λ i. test (get_or xs i d) (get_or xs (suc i) d))
all_adjacent test d xs true h long =
    sym (at_every _ _ (λ i b. let here : i + 1 < length xs = omega arith in rw (← add-one) (sym (h i d here))))
all_adjacent test d xs false (k, b, fails) long =
    let here : suc k < length xs = omega arith in
    let fail : test (get_or xs k d) (get_or xs (suc k) d) ≡ false = rw (← add-one) (sym (fails d)) in
    sym (every_stops (λ i. test (get_or xs i d) (get_or xs (suc i) d)) (omega arith) fail)

-- Two lists side by side, as far as the first goes.

pub length_zip : {A B : Type 0} (xs : List A) (ys : List B) → length xs ≤ length ys → length (zip xs ys) ≡ length xs
length_zip [] ys e = refl
length_zip (x ∷ xs) [] e = absurd (omega arith)
length_zip (x ∷ xs) (y ∷ ys) e = ap suc (length_zip xs ys (le_of_suc-le-suc e))

pub get_or_zip : {A B : Type 0} (xs : List A) (ys : List B) (i : ℕ) (d : A) (e : B) → i < length xs → length xs ≤ length ys
    → get_or (zip xs ys) i (d, e) ≡ (get_or xs i d, get_or ys i e)
get_or_zip [] ys i d e b h = absurd (omega arith)
get_or_zip (x ∷ xs) [] i d e b h = absurd (omega arith)
get_or_zip (x ∷ xs) (y ∷ ys) zero d e b h = refl
get_or_zip (x ∷ xs) (y ∷ ys) (suc i) d e b h = get_or_zip xs ys i d e (le_of_suc-le-suc b) (le_of_suc-le-suc h)

-- the first n of two lists, a list with its numbers, three lists from the n-th on
pub every_taken_zip : {A B : Type 0} (d : A) (e : B) (p : A × B → Bool) (xs : List A) (ys : List B) (n : ℕ)
    → n ≤ length xs → length xs ≤ length ys → list_all p (take n (zip xs ys)) ≡ every n (λ k. p (get_or xs k d, get_or ys k e))
every_taken_zip d e p xs ys n few h =
    every_taken (d, e) p (zip xs ys) n (omega (arith, length_zip xs ys h))
    ∙ every_same n _ _ (λ k b. ap p (get_or_zip xs ys k d e (omega arith) h))

numbered_all : {A : Type 0} (d : A) (p : ℕ × A → Bool) (xs : List A) (n : ℕ) → n ≤ length xs
    → list_all p (zip (range_with_len 0 n) xs) ≡ every n (λ k. p (k, get_or xs k d))
numbered_all d p xs n few =
    let numbers : length (range_with_len 0 n) ≡ n = length-range_with_len 0 n in
    let fits : length (range_with_len 0 n) ≤ length xs = omega arith in
    every_listed (0, d) p (zip (range_with_len 0 n) xs) (length_zip _ xs fits ∙ numbers)
    ∙ every_same n _ _ (λ k b.
    let number : get_or (range_with_len 0 n) k 0 ≡ k = get_or-range_with_len 0 n k 0 b ∙ omega arith in
    ap p (get_or_zip (range_with_len 0 n) xs k 0 d (omega arith) fits ∙ rw number))

numbers_left : {A : Type 0} (a n : ℕ) (xs : List A) → length xs ≤ n → zip (range_with_len a n) xs ≡ zip (range_with_len a (length xs)) xs
numbers_left a zero [] h = refl
numbers_left a (suc n) [] h = refl
numbers_left a zero (x ∷ xs) h = absurd (omega arith)
numbers_left a (suc n) (x ∷ xs) h = ap (λ l. (a, x) ∷ l) (numbers_left (a + 1) n xs (le_of_suc-le-suc h))

pub every_numbered : {A : Type 0} (d : A) (p : ℕ × A → Bool) (xs : List A) (n : ℕ) → ((k : ℕ) → p (k, d) ≡ true)
    → list_all p (zip (range_with_len 0 n) xs) ≡ every n (λ k. p (k, get_or xs k d))
every_numbered d p xs n passes =
    elim (dec_lt (length xs) n) [
      | yes b ↦
          ap (list_all p) (numbers_left 0 n xs (omega arith))
          ∙ numbered_all d p xs (length xs) (omega arith)
          ∙ sym (every_past (length xs) n _ (omega arith) (λ k out. ap (λ x. p (k, x)) (get_or-eq_default xs d out) ∙ passes k))
      | no b ↦ numbered_all d p xs n (omega arith)
    ]

pub every_dropped_three : {A B C : Type 0} (d : A) (e : B) (f : C) (p : (A × B) × C → Bool) (xs : List A) (ys : List B) (zs : List C)
    (n : ℕ) {m : ℕ} → length xs ≡ m → length ys ≡ m → length zs ≡ m
    → list_all p (drop n (zip (zip xs ys) zs)) ≡ every m (λ k. ltb k n or p ((get_or xs k d, get_or ys k e), get_or zs k f))
every_dropped_three d e f p xs ys zs n {m} x y z =
    let two : length xs ≤ length ys = omega arith in
    let pairs : length (zip xs ys) ≡ length xs = length_zip xs ys two in
    let three : length (zip xs ys) ≤ length zs = omega arith in
    every_dropped ((d, e), f) p (zip (zip xs ys) zs) n (length_zip (zip xs ys) zs three ∙ pairs ∙ x)
    ∙ every_same m _ _ (λ k b.
    ap (λ q. ltb k n or p q)
    (get_or_zip (zip xs ys) zs k (d, e) f (omega arith) three ∙ ap (λ (q : _ × _). (q, get_or zs k f)) (get_or_zip xs ys k d e (omega arith) two)))
