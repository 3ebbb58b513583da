-- The lines put together from their pieces, in the order in which they are written. Assumes nothing.
use Prim.Native.Nat.{ℕ}
use mathlib.Core.Path.{◌≡◌}
use mathlib.Core.List.{List, ◌++◌, append_assoc}
use Rattle.model.specs.declared.VmId.{VmId}
use Rattle.model.specs.declared.Mode.{Mode}
use Rattle.lines.specs.Text.{decimal, hex8, space, newline, end_word, refused_word, broken_word, mode_word, line_text, end_text, refused_text, broken_text}
use Rattle.lines.specs.declared.writer.Writer.{Writer}
use Rattle.lines.specs.Wrote.{Wrote}
use Rattle.lines.proofs.Laying.{wrote_then}

in_a_row : (p q r s t x y : List ℕ)
    → (p ++ x) ++ (q ++ x) ++ (r ++ x) ++ (s ++ x) ++ (t ++ y) ≡ p ++ x ++ q ++ x ++ r ++ x ++ s ++ x ++ t ++ y
in_a_row p q r s t x y = simp append_assoc

pub line_written : {a b c d e f : Writer} (step : ℕ) (caller : VmId) (before after second : ℕ)
    → Wrote a (decimal step ++ space) b
    → Wrote b (decimal caller.0 ++ space) c
    → Wrote c (hex8 before ++ space) d
    → Wrote d (hex8 after ++ space) e
    → Wrote e (hex8 second ++ newline) f
    → Wrote a
    (line_text (record { step = step; caller = caller; r0_before = before; r0_after = after; r2_after = second }))
    f
unfolding line_text
line_written step caller before after second p q r s t =
    rw (in_a_row (decimal step) (decimal caller.0) (hex8 before) (hex8 after) (hex8 second) space newline)
    at (wrote_then (wrote_then (wrote_then (wrote_then p q) r) s) t)

pub end_written : {a b c d : Writer} (steps : ℕ) (mode : Mode)
    → Wrote a end_word b
    → Wrote b (decimal steps ++ space) c
    → Wrote c (mode_word mode ++ newline) d
    → Wrote a (end_text steps mode) d
unfolding end_text
end_written steps mode p q r =
    let row : end_word ++ (decimal steps ++ space) ++ (mode_word mode ++ newline) ≡ end_word ++ decimal steps ++ space ++ mode_word mode ++ newline =
    simp append_assoc
    in
    rw row at (wrote_then (wrote_then p q) r)

pub refused_written : {a b c : Writer} (number : ℕ)
    → Wrote a refused_word b
    → Wrote b (decimal number ++ newline) c
    → Wrote a (refused_text number) c
unfolding refused_text
refused_written number p q = wrote_then p q

pub broken_written : {a b c : Writer} (offset : ℕ)
    → Wrote a broken_word b
    → Wrote b (decimal offset ++ newline) c
    → Wrote a (broken_text offset) c
unfolding broken_text
broken_written offset p q = wrote_then p q
