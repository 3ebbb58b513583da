-- Texts laid one behind the other. Assumes nothing.
use Prim.Native.Nat.{ℕ, ◌+◌, ◌-◌, ◌≤◌, ◌<◌}
use mathlib.Core.Path.{◌≡◌, refl, sym, ap, ◌∙◌}
use mathlib.Core.List.{List, [], ◌∷◌, ◌++◌, append_assoc}
use native.Mathlib.Omega.{arith}
use native.Mathlib.Numerals.{add-one}
use lib.ListN.{length, take, drop, set, length-append, length-take, length-drop, take-append-drop}
use borrow.Rule.Slice.PartMut.{put_mid}
use Rattle.std.proofs.lemmas.Slice.{put_mid-paste}
use lib.Seq.{paste, take-length, length-take-le, take_at, drop_at, take-append-le, drop-append-add, drop-drop, take-take, set_split}
use Rattle.lines.specs.declared.writer.Writer.{Writer}
use Rattle.lines.specs.Laid.{laid_text, Laid}
use Rattle.lines.specs.Wrote.{Wrote}

module _ (out : List ℕ) (at : ℕ) where
  -- nothing laid changes nothing
  pub laid_none : laid_text out at [] ≡ out
  unfolding laid_text
  laid_none =
      let same : at + 0 ≡ at = omega arith in
      rw (same, append_assoc) (take-append-drop at out)

  -- one byte laid is one byte set
  pub laid_one : (x : ℕ) → at < length out → set out at x ≡ laid_text out at (x ∷ [])
  unfolding laid_text
  laid_one x h = rw (set_split out at x h, append_assoc, add-one) refl

  pub laid_length : (t : List ℕ) → at + length t ≤ length out → length (laid_text out at t) ≡ length out
  unfolding laid_text
  laid_length t h = simp (length-append, length-take, length-drop) (omega arith)

  front_length : (t : List ℕ) → at + length t ≤ length out → length (take at out ++ t) ≡ at + length t
  front_length t h = simp (length-append, length-take) (omega arith)

  module _ (t u : List ℕ) (h : at + length t + length u ≤ length out) where
    behind : drop (at + length t + length u) out ≡ drop (at + length (t ++ u)) out
    behind =
        let same : at + length t + length u ≡ at + length (t ++ u) = omega (arith, length-append t u) in
        ap (λ k. drop k out) same

    -- a text laid behind another: both are laid
    pub laid_two : laid_text (laid_text out at t) (at + length t) u ≡ laid_text out at (t ++ u)
    unfolding laid_text
    laid_two =
        let front : length (take at out ++ t) ≡ at + length t = front_length t (omega arith) in
        let first : take (at + length t) (take at out ++ t ++ drop (at + length t) out) ≡ take at out ++ t = take_at _ _ _ front in
        let rest : drop (at + length t + length u) (take at out ++ t ++ drop (at + length t) out) ≡ drop (at + length (t ++ u)) out =
        ap (λ k. drop (k + length u) (take at out ++ t ++ drop (at + length t) out)) (sym front)
        ∙ drop-append-add (take at out ++ t) (drop (at + length t) out) (length u)
        ∙ drop-drop (length u) (at + length t) out
        ∙ behind
        in
        rw (first, rest) (simp append_assoc)

    -- a text laid in front of another that is there already
    pub laid_back : laid_text (laid_text out (at + length t) u) at t ≡ laid_text out at (t ++ u)
    unfolding laid_text
    laid_back =
        let wide : length (take (at + length t) out) ≡ at + length t = length-take-le _ out (omega arith) in
        let front : take at (take (at + length t) out ++ u ++ drop (at + length t + length u) out) ≡ take at out =
        rw append_assoc (take-append-le at (take (at + length t) out) _ (omega arith) ∙ take-take at (at + length t) out (omega arith))
        in
        let rest : drop (at + length t) (take (at + length t) out ++ u ++ drop (at + length t + length u) out)
        ≡ u ++ drop (at + length t + length u) out =
        rw append_assoc (drop_at (take (at + length t) out) _ _ wide)
        in
        rw (front, rest, behind) (simp append_assoc)

-- that a text was laid, of the parts that do not follow
pub laying : {before text after : List ℕ} {at behind : ℕ}
    → after ≡ laid_text before at text
    → behind ≡ at + length text
    → behind ≤ length after
    → length after ≡ length before
    → Laid before at text after behind
laying {after = after} {behind = behind} e n w k =
    record { laid = e; next = n; kept = k; within = w; counts = sym (length-take-le behind after w) }

-- what was laid behind a text, together with it
pub laid_then : {a b c : List ℕ} {at r s : ℕ} {t u : List ℕ} → Laid a at t b r → Laid b r u c s → Laid a at (t ++ u) c s
laid_then {a} {b} {c} {at} {r} {s} {t} {u} one two =
    let end : s ≡ at + length t + length u = rw (← one.next) two.next in
    let fits : at + length t + length u ≤ length a = omega (arith, one.kept, two.kept, two.within) in
    let both : c ≡ laid_text (laid_text a at t) (at + length t) u = rw (← one.laid, ← one.next) two.laid in
    laying (both ∙ laid_two a at t u fits) (omega (arith, length-append t u)) two.within (two.kept ∙ one.kept)

-- what was written behind a text, together with it
pub wrote_then : {a b c : Writer} {t u : List ℕ} → Wrote a t b → Wrote b u c → Wrote a (t ++ u) c
wrote_then one two = record { same_buffer = two.same_buffer ∙ one.same_buffer; laid = laid_then one.laid two.laid }

-- A text copied over a part of the buffer is laid there.

module _ (before : List ℕ) (at : ℕ) (text : List ℕ) where
  pasted : paste before at text (length text) ≡ laid_text before at text
  unfolding laid_text
  pasted = rw (take-length text) refl

  pub text_laid : {part after : List ℕ} → at + length text ≤ length before → part ≡ text
      → after ≡ put_mid at (at + length text - at) before part → Laid before at text after (at + length text)
  text_laid {part} {after} h e is =
      let there : after ≡ laid_text before at text =
      is ∙ put_mid-paste at _ before part text (length text) e (omega arith) refl ∙ pasted
      in
      let kept : length after ≡ length before = rw there (laid_length before at text h) in
      laying there refl (omega arith) kept
