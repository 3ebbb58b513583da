-- Digits: how many there are, and the loops that count and write them. Assumes nothing.
use Prim.Native.Nat.{ℕ, zero, suc, ◌+◌, ◌-◌, ◌*◌, ◌/◌, ◌%◌, ◌^◌, ◌≤◌, ◌<◌}
use mathlib.Core.Bool.{Bool, true, false}
use mathlib.Core.Path.{◌≡◌, refl, sym, ap, ◌∙◌}
use mathlib.Core.List.{List}
use native.Mathlib.Nat.{pow-suc, pow-le-pow_right}
use native.Mathlib.Omega.{arith}
use native.Mathlib.Decide.{dec_lt}
use native.Mathlib.Numerals.{add-one}
use borrow.Author.Tests.{lt-ltb, le-ltb}
use lib.Dec.{ltb}
use lib.ListN.{length, set, length-append, length-set}
use Rattle.std.specs.Option.{IfNone, IfSome, unwrap_or}
use Rattle.std.specs.Prelude.{Option, None, Some}
use Rattle.model.specs.Tests.{first, or_next}
use Rattle.model.proofs.Tests.{first_is, none_first, passes_first}
use Rattle.lines.specs.Text.{glyph_of, digits, places_of, decimal}
use Rattle.lines.specs.Laid.{laid_text, Laid}
use Rattle.lines.proofs.Laying.{laying, laid_none, laid_one, laid_back}

pub digits_length : (b k n : ℕ) → length (digits b k n) ≡ k
unfolding digits
digits_length b zero n = refl
digits_length b (suc k) n = length-append (digits b k (n / b)) _ ∙ rw (digits_length b k (n / b)) (add-one k)

-- The loop that writes digits, from the last to the first.

digit_laid : (out : List ℕ) (at b i rest : ℕ)
    → at + i < length out
    → laid_text (set out (at + i) (glyph_of (rest % b))) at (digits b i (rest / b)) ≡ laid_text out at (digits b (suc i) rest)
unfolding digits
digit_laid out at b i rest h =
    let long : length (digits b i (rest / b)) ≡ i = digits_length b i (rest / b) in
    let place : at + i ≡ at + length (digits b i (rest / b)) = omega arith in
    rw (laid_one out (at + i) (glyph_of (rest % b)) h, place) (laid_back out at (digits b i (rest / b)) _ (omega arith))

-- what is still to be laid, over what is there, is the whole
pub record Spelt (first : List ℕ) (at b count n : ℕ) (out : List ℕ) (i rest : ℕ) : Type 0 where
  pub fits : at + count ≤ length first
  pub so_far : i ≤ count
  pub kept : length out ≡ length first
  pub whole : laid_text out at (digits b i rest) ≡ laid_text first at (digits b count n)

pub spelt_more : {first : List ℕ} {at b count n : ℕ} {out : List ℕ} {i rest code : ℕ}
    → Spelt first at b count n out i rest
    → 0 < i
    → code ≡ glyph_of (rest % b)
    → Spelt first at b count n (set out (at + (i - 1)) code) (i - 1) (rest / b)
spelt_more {first} {at} {b} {count} {n} {out} {i} {rest} {code} c h e =
    let back : suc (i - 1) ≡ i = omega arith in
    let next : laid_text (set out (at + (i - 1)) code) at (digits b (i - 1) (rest / b)) ≡ laid_text out at (digits b i rest) =
    rw e (digit_laid out at b (i - 1) rest (omega arith) ∙ ap (λ k. laid_text out at (digits b k rest)) back)
    in
    record {
      fits = c.fits;
      so_far = omega arith;
      kept = length-set out _ _ ∙ c.kept;
      whole = next ∙ c.whole;
    }

pub spelt_whole : {first : List ℕ} {at b count n : ℕ} {out : List ℕ} {i rest : ℕ}
    → Spelt first at b count n out i rest
    → i ≤ 0
    → Laid first at (digits b count n) out (at + count)
unfolding digits
spelt_whole {first} {at} {b} {count} {n} {out} {i} {rest} c h =
    let none : i ≡ 0 = omega arith in
    let bare : laid_text out at (digits b 0 rest) ≡ laid_text first at (digits b count n) = rw none at c.whole in
    let long : length (digits b count n) ≡ count = digits_length b count n in
    laying (sym (laid_none out at) ∙ bare) (omega arith) (omega arith) c.kept

-- How many decimal digits.

-- the test that a number has no more than suc k of them
abbrev pub small : ℕ → ℕ → Bool
small n k = ltb n (10 ^ suc k)

-- the number is at least a power of ten, and below the next
places_between : (n k : ℕ) → k < 20 → 10 ^ k ≤ n → n < 10 * 10 ^ k → places_of n ≡ k + 1
unfolding places_of
places_between n k few low high =
    let here : small n k ≡ true = lt-ltb n (10 ^ suc k) (rw (pow-suc 10 k) (omega arith)) in
    let passed : (j : ℕ) → j < k → small n j ≡ false = λ j h.
    let power : 10 ^ suc j ≤ 10 ^ k = pow-le-pow_right (omega arith) (omega arith) in
    le-ltb n (10 ^ suc j) (omega arith)
    in
    let found : first 19 (small n) ≡ k =
    elim (dec_lt k 19) [
      | yes l ↦ first_is 19 (small n) k l here passed
      | no l ↦
          let last : k ≡ 19 = omega arith in
          rw last (none_first 19 (small n) (rw last at passed))
    ]
    in
    rw (add-one, found) refl

-- the exponent of that power, or 0 where there is none, which is of the number 0
pub places_by_power : (n : ℕ) (power : Option ℕ)
    → IfNone power (n ≡ 0) → IfSome power (λ k. 10 ^ k ≤ n) → IfSome power (λ k. n < 10 * 10 ^ k) → IfSome power (λ k. k < 20)
    → unwrap_or power 0 + 1 ≡ places_of n
unfolding places_of first or_next
places_by_power n None none low high few = rw none refl
places_by_power n (Some k) none low high few = sym (places_between n k few low high)

-- The room that numbers take.

pub decimal_short : (n k : ℕ) → n < 10 ^ suc k → length (decimal n) ≤ suc k
unfolding decimal places_of
decimal_short n k h =
    let few : first 19 (small n) ≤ k = passes_first 19 (small n) k (lt-ltb n (10 ^ suc k) h) in
    let long : length (digits 10 (suc (first 19 (small n))) n) ≡ suc (first 19 (small n)) = digits_length 10 _ n in
    omega arith

pub decimal_length : (n : ℕ) → length (decimal n) ≡ places_of n
unfolding decimal
decimal_length n = digits_length 10 (places_of n) n

-- the step and the caller of a line
pub line_short : (step caller : ℕ) → step < 2 ^ 32 → caller < 2 ^ 8 → length (decimal step) + length (decimal caller) ≤ 13
line_short step caller s c =
    omega (arith, decimal_short step 9 (omega arith), decimal_short caller 2 (omega arith))
