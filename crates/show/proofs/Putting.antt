-- A piece of a run's text: what it has so far, and what is to come behind that, is the whole. A turn adds its line, or the last
-- line.
-- Assumes nothing.
use Rattle.model.specs.ToCall.{made, run_to_call_of, line_of}
use Rattle.std.specs.Prelude.{None, Some}
use Rattle.model.specs.declared.RanToCall.{RanToCall}
use Prim.Native.Nat.{ℕ, ◌+◌, ◌-◌, ◌≤◌, ◌<◌}
use mathlib.Core.Path.{◌≡◌, refl, sym, ap, ◌∙◌}
use mathlib.Core.Bool.{Bool, true, false}
use mathlib.Core.List.{List, [], ◌++◌}
use native.Mathlib.Omega.{arith}
use lib.ListN.{length, take, length-append}
use lib.Seq.{take_at, length-take-le}
use Rattle.model.specs.declared.VmId.{VmId}
use Rattle.model.specs.declared.Machine.{Machine}
use Rattle.model.specs.Shaped.{Shaped}
use Rattle.model.specs.Entries.{run_of}
use Rattle.model.specs.Legs.{line_for}
use Rattle.lines.specs.Laid.{laid_text, Laid}
use Rattle.lines.specs.Text.{line_text, end_text}
use Rattle.show.specs.declared.run.Piece.{Piece}
use Rattle.show.specs.Ended.{ending, ending_of}
use Rattle.show.specs.Told.{lines_text, Rest, rest, behind, rest_of, piece_then, PutPiece}
use Rattle.show.proofs.Turns.{line_alone, behind_behind, Gone, turn}

-- the text up to the end of what was laid
laid_taken : (before : List ℕ) (at : ℕ) (text : List ℕ) {after : List ℕ} {end : ℕ} → at ≤ length before
    → Laid before at text after end
    → take end after ≡ take at before ++ text
unfolding laid_text
laid_taken before at text {after} {end} inside laid =
    let size : length (take at before ++ text) ≡ end =
    length-append (take at before) text ∙ ap (λ (k : ℕ). k + length text) (length-take-le at before inside) ∙ sym laid.next in
    rw laid.laid (take_at (take at before ++ text) _ end size)

-- where a turn begins
pub record Putting (whole : Rest) (budget first size left : ℕ) (m : Machine) (memory out : List ℕ) (at : ℕ) : Type 0 where
  pub shaped : Shaped m
  pub within : left ≤ budget
  pub some : 0 < at → left < first
  pub most : left ≤ first
  pub long : length out ≡ size
  pub inside : at ≤ size
  pub same : behind (take at out) (rest_of budget left m memory) ≡ whole

pub begins : (budget left : ℕ) (m : Machine) (memory out : List ℕ) → Shaped m → left ≤ budget
    → Putting (rest_of budget left m memory) budget left (length out) left m memory out 0
begins budget left m memory out shaped within =
    record {
      shaped = shaped;
      within = within;
      some = λ h. absurd (omega arith);
      most = omega arith;
      long = refl;
      inside = omega arith;
      same = refl;
    }

module _ {whole : Rest} {budget first size left : ℕ} {m : Machine} {memory out : List ℕ} {at : ℕ}
    (putting : Putting whole budget first size left m memory out at)
    {r : RanToCall} {words : List ℕ} (ran : record { result = r; memory = words } ≡ run_to_call_of m memory left) where
  pub gone : Gone budget left (rest_of budget left m memory) r.machine words r.count r.call
  gone = turn budget left putting.within m putting.shaped memory ran

  -- the turn came to a call
  pub goes_on : {g : VmId} {w : ℕ} {next : List ℕ} {end : ℕ} → r.call ≡ Some (made g w)
      → Laid out at (line_text (line_of (budget - (left - r.count)) g w r.machine)) next end
      → Putting whole budget first size (left - r.count) r.machine words next end
  unfolding line_for
  goes_on {g} {w} {next} {end} made laid =
      let some : 0 < r.count = (gone.called g w made).0 in
      let line = line_text (line_of (budget - (left - r.count)) g w r.machine) in
      let told : lines_text (line_for (budget - (left - r.count)) r.call r.machine) ≡ line = rw made (line_alone _) in
      record {
        shaped = gone.shaped;
        within = omega (arith, putting.within);
        some = λ h. omega (arith, putting.most, gone.taken);
        most = omega (arith, putting.most);
        long = laid.kept ∙ putting.long;
        inside = omega (arith, laid.within, laid.kept, putting.long);
        same =
            ap (λ (text : List ℕ). behind text (rest_of budget (left - r.count) r.machine words))
            (laid_taken out at line (omega (arith, putting.inside, putting.long)) laid)
            ∙ behind_behind (take at out) line (rest_of budget (left - r.count) r.machine words)
            ∙ ap (λ (text : List ℕ). behind (take at out) (behind text (rest_of budget (left - r.count) r.machine words))) (sym told)
            ∙ ap (behind (take at out)) (sym gone.then_rest)
            ∙ putting.same;
      }

  -- it came to none
  pub ends : {next : List ℕ} {end : ℕ} → r.call ≡ None
      → Laid out at (end_text (budget - (left - r.count)) r.machine.mode) next end
      → rest (take end next) (ending (budget - (left - r.count)) r.machine) ≡ whole
  unfolding line_for lines_text
  ends {next} {end} none laid =
      let told : lines_text (line_for (budget - (left - r.count)) r.call r.machine) ≡ [] = rw none in
      ap (λ (text : List ℕ). rest text (ending (budget - (left - r.count)) r.machine))
      (laid_taken out at (end_text (budget - (left - r.count)) r.machine.mode) (omega (arith, putting.inside, putting.long)) laid)
      ∙ ap (behind (take at out)) (sym (gone.last none))
      ∙ ap (λ (text : List ℕ). behind (take at out) (behind text (rest_of budget (left - r.count) r.machine words))) (sym told)
      ∙ ap (behind (take at out)) (sym gone.then_rest)
      ∙ putting.same

-- The end of the run is the same behind each piece.

module _ {budget left : ℕ} {m : Machine} {memory : List ℕ} {p : Piece} {after out : List ℕ}
    (put : PutPiece budget left m memory p after out) where
  whole_by : {more : Bool} → p.more ≡ more → piece_then more budget p after out ≡ rest_of budget left m memory
  whole_by e = ap (λ (b : Bool). piece_then b budget p after out) (sym e) ∙ put.whole

  pub more_comes : p.more ≡ true → (rest_of budget p.left p.machine after).end ≡ (rest_of budget left m memory).end
  unfolding piece_then
  more_comes e = ap (λ (r : Rest). r.end) (whole_by e)

  pub all_told : p.more ≡ false → ending (budget - p.left) p.machine ≡ (rest_of budget left m memory).end
  unfolding piece_then
  all_told e = ap (λ (r : Rest). r.end) (whole_by e)

pub end_of_run : (budget : ℕ) (m : Machine) (memory : List ℕ)
    → (rest_of budget budget m memory).end ≡ ending_of (run_of m memory budget)
unfolding rest_of
end_of_run budget m memory =
    let count : budget - budget + (run_of m memory budget).result.count ≡ (run_of m memory budget).result.count = omega arith in
    ap (λ (n : ℕ). ending n (run_of m memory budget).result.machine) count
