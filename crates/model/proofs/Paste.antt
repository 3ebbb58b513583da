-- The elements of a list with another list's first elements pasted over its own.
use Prim.Native.Nat.{ℕ, ◌+◌, ◌-◌, ◌≤◌, ◌<◌}
use mathlib.Core.Path.{◌≡◌, sym, ap, ◌∙◌}
use mathlib.Core.List.{List, ◌++◌}
use native.Mathlib.Omega.{arith}
use lib.ListN.{length, get_or, take, get_or-append}
use lib.Seq.{length-take-le, get_or-take, get_or-drop, get_or-append-add, paste, take-paste, drop-paste}

module _ {A : Type 0} (l : List A) (at : ℕ) (new : List A) (n : ℕ) (fits : at + n ≤ length l) (enough : n ≤ length new) (d : A) where
  pub paste_front : (x : ℕ) → x < at → get_or (paste l at new n) x d ≡ get_or l x d
  paste_front x h =
      let here : x < length (take at l) = omega (arith, length-take-le at l (omega arith)) in
      sym (get_or-take (at + n) (paste l at new n) x d (omega arith))
      ∙ ap (λ (m : List A). get_or m x d) (take-paste l at new n (omega arith) enough)
      ∙ get_or-append (take at l) (take n new) d x here
      ∙ get_or-take at l x d h

  pub paste_inside : (i : ℕ) → i < n → get_or (paste l at new n) (at + i) d ≡ get_or new i d
  paste_inside i h =
      sym (get_or-take (at + n) (paste l at new n) (at + i) d (omega arith))
      ∙ ap (λ (m : List A). get_or m (at + i) d) (take-paste l at new n (omega arith) enough)
      ∙ ap (λ (k : ℕ). get_or (take at l ++ take n new) (k + i) d) (sym (length-take-le at l (omega arith)))
      ∙ get_or-append-add (take at l) (take n new) i d
      ∙ get_or-take n new i d h

  pub paste_behind : (x : ℕ) → at + n ≤ x → get_or (paste l at new n) x d ≡ get_or l x d
  paste_behind x h =
      let split : x ≡ at + n + (x - (at + n)) = omega arith in
      ap (λ (k : ℕ). get_or (paste l at new n) k d) split
      ∙ sym (get_or-drop (at + n) (paste l at new n) (x - (at + n)) d)
      ∙ ap (λ (m : List A). get_or m (x - (at + n)) d) (drop-paste l at new n (omega arith) enough)
      ∙ get_or-drop (at + n) l (x - (at + n)) d
      ∙ ap (λ (k : ℕ). get_or l k d) (sym split)
