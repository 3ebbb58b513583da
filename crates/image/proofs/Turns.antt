-- The loops over an image: each begins, goes on, stops, has come to the end. And the ways out of load.
use Prim.Native.Nat.{ℕ, zero, suc, ◌+◌, ◌*◌, ◌-◌, ◌≤◌, ◌<◌}
use Rattle.std.specs.Prelude.{Option, Some, None, Result, Ok, Err, ok_or}
use Rattle.std.specs.Result.{result_ok}
use mathlib.Core.Path.{◌≡◌, refl, sym, ap, ◌∙◌}
use mathlib.Core.Bool.{Bool, true, false}
use mathlib.Core.List.{List}
use native.Mathlib.Nat.{le_antisymm}
use native.Mathlib.Omega.{arith}
use lib.ListN.{length, replicate}
use lib.Dec.{eqb}
use borrow.Author.Tests.{eq-eqb, ne_eqb}
use Rattle.model.specs.declared.Answer.TheVariants.{Done, WrongMemory, BrokenImage}
use Rattle.model.specs.declared.Loaded.{Loaded}
use Rattle.model.specs.Constants.{PAGE}
use Rattle.model.specs.Answer.{answer_number, answers}
use Rattle.model.specs.Blank.{blank, refused_load}
use Rattle.image.specs.declared.Record.{Record}
use Rattle.image.specs.declared.Content.{Content}
use Rattle.image.specs.declared.Draft.{Draft}
use Rattle.image.specs.declared.Image.{Image}
use Rattle.image.specs.declared.Broken.{Broken}
use Rattle.image.specs.Pieces.{image_kinds, end_of, cut}
use Rattle.image.specs.Contents.{content_of}
use Rattle.image.specs.Drafts.{Ranged, begun, may_stand, taken}
use Rattle.image.specs.Judging.{Judged, broken, good, ended_with, at_end, heard, tried, turn, follow, judged_from, judged_of}
use Rattle.image.specs.Laying.{record_laid, piece_laid, laid_from, memory_of}
use Rattle.image.specs.Loading.{left_by_load, loaded_into, loaded_by, load_of}
use Rattle.image.proofs.Cutting.{cut_whole}
use Rattle.image.proofs.Reading.{begun_ranged, taken_ranged, may_stand_fits}

-- A record that was cut: where its payload begins, and that it ends inside the image.
pub cut_inside : (bytes : List ℕ) (at : ℕ) {piece : Option Record} {r : Record}
    → piece ≡ cut image_kinds bytes at → piece ≡ Some r → (r.payload ≡ at + 4) × (r.payload + r.size ≤ length bytes)
unfolding end_of
cut_inside bytes at is whole = cut_whole image_kinds bytes at (sym is ∙ whole)

-- An option that is asked by `ok_or(..)?`: what goes on was in it; or there was nothing, and the function leaves with the error
-- that was given.

pub had : {A E : Type 0} {o : Option A} {told : Result A E} {x : A} → o ≡ result_ok told → told ≡ Ok x → o ≡ Some x
had part ok = part ∙ ap result_ok ok

pub lacked : {A T E : Type 0} (o : Option A) (e : E) {told : Result A E} {x : E} {left whole : Result T E}
    → told ≡ ok_or o e → told ≡ Err x → left ≡ Err x → (o ≡ None → Err e ≡ whole) → left ≡ whole
lacked None e {told} asked err leaves none = let it = none refl in cc
lacked (Some a) e asked err leaves none = cc

-- The ways out at the end of an image: no budget was read, or one was.

pub end_early : (at : ℕ) (d : Draft) → d.budget ≡ None → broken at ≡ at_end at d
unfolding at_end ended_with
end_early at d none = rw none

pub end_good : (at : ℕ) (d : Draft) {budget : ℕ} → d.budget ≡ Some budget → good d.machine budget ≡ at_end at d
unfolding at_end ended_with
end_good at d read = rw read

-- Judging: what is judged from an offset on is what is judged of the whole image.

pub record Judging (bytes : List ℕ) (at : ℕ) (d : Draft) : Type 0 where
  pub inside : at ≤ length bytes
  pub ranged : Ranged d
  pub more : ℕ
  pub enough : length bytes ≤ at + more
  pub rest : judged_from more bytes at d ≡ judged_of bytes

pub judging_begins : (bytes : List ℕ) {d : Draft} → d ≡ begun → Judging bytes 0 d
unfolding judged_of
judging_begins bytes e =
    rw e (record { inside = omega arith; ranged = begun_ranged; more = length bytes; enough = omega arith; rest = refl })

-- one turn inside the image
judged_turn : (more : ℕ) (bytes : List ℕ) (at : ℕ) (d : Draft) {piece : Option Record}
    → at < length bytes → length bytes ≤ at + more → piece ≡ cut image_kinds bytes at
    → judged_from more bytes at d ≡ follow (tried bytes at d piece) (judged_from (more - 1) bytes)
unfolding judged_from turn
judged_turn zero bytes at d h enough is = absurd (omega arith)
judged_turn (suc more) bytes at d h enough is =
    let one_less : suc more - 1 ≡ more = omega arith in
    let off : eqb at (length bytes) ≡ false = ne_eqb _ _ (λ (q : at ≡ length bytes). omega arith) in
    rw (off, one_less, is)

judged_here : {bytes : List ℕ} {at : ℕ} {d : Draft} {piece : Option Record} (j : Judging bytes at d)
    → at < length bytes → piece ≡ cut image_kinds bytes at
    → follow (tried bytes at d piece) (judged_from (j.more - 1) bytes) ≡ judged_of bytes
judged_here {bytes} {at} {d} j h is = sym (judged_turn j.more bytes at d h j.enough is) ∙ j.rest

-- a record that may stand is taken, and it goes on behind it
pub judging_goes_on : {bytes : List ℕ} {at : ℕ} {d next : Draft}
    {piece : Option Record} {r : Record} {said : Option Content} {content : Content} {asked : Bool}
    → Judging bytes at d → at < length bytes → piece ≡ cut image_kinds bytes at → piece ≡ Some r
    → said ≡ content_of bytes r → said ≡ Some content
    → asked ≡ may_stand at d content → asked ≡ true → next ≡ taken d content
    → Judging bytes (r.payload + r.size) next
unfolding end_of tried heard follow
judging_goes_on {bytes} {at} {d} {next} {piece} {r} {said} {content} j h is whole says some asks stands takes =
    let place = cut_inside bytes at is whole in
    let may : may_stand at d content ≡ true = sym asks ∙ stands in
    let here : follow (tried bytes at d (Some r)) (judged_from (j.more - 1) bytes) ≡ judged_of bytes = rw whole at (judged_here j h is) in
    record {
      inside = place.1;
      ranged = rw takes (taken_ranged d content j.ranged (may_stand_fits at d content may));
      more = j.more - 1;
      enough = omega (arith, place.0, j.enough);
      rest = rw takes (rw (← says, some, may) at here);
    }

-- nothing is cut, what is cut says nothing, or what it says may not stand: the image is broken there
pub judging_stops : {bytes : List ℕ} {at : ℕ} {d : Draft} {piece : Option Record}
    → Judging bytes at d → at < length bytes → piece ≡ cut image_kinds bytes at → piece ≡ None
    → broken at ≡ judged_of bytes
unfolding tried follow
judging_stops j h is none = rw none at (judged_here j h is)

pub judging_silent : {bytes : List ℕ} {at : ℕ} {d : Draft} {piece : Option Record} {r : Record} {said : Option Content}
    → Judging bytes at d → at < length bytes → piece ≡ cut image_kinds bytes at → piece ≡ Some r
    → said ≡ content_of bytes r → said ≡ None
    → broken at ≡ judged_of bytes
unfolding tried heard follow
judging_silent j h is whole says none = rw (whole, ← says, none) at (judged_here j h is)

pub judging_refuses : {bytes : List ℕ} {at : ℕ} {d : Draft}
    {piece : Option Record} {r : Record} {said : Option Content} {content : Content} {asked : Bool}
    → Judging bytes at d → at < length bytes → piece ≡ cut image_kinds bytes at → piece ≡ Some r
    → said ≡ content_of bytes r → said ≡ Some content
    → asked ≡ may_stand at d content → asked ≡ false
    → broken at ≡ judged_of bytes
unfolding tried heard follow
judging_refuses {at = at} {d = d} {content = content} j h is whole says some asks refuses =
    let may : may_stand at d content ≡ false = sym asks ∙ refuses in
    rw (whole, ← says, some, may) at (judged_here j h is)

-- at the image's end, whatever number of turns is left
judged_end : (more : ℕ) (bytes : List ℕ) (at : ℕ) (d : Draft) → at ≡ length bytes → judged_from more bytes at d ≡ at_end at d
unfolding judged_from turn follow
judged_end zero bytes at d e = refl
judged_end (suc more) bytes at d e = rw (eq-eqb _ _ e)

pub judging_ends : {bytes : List ℕ} {at : ℕ} {d : Draft} {told : Judged}
    → Judging bytes at d → length bytes ≤ at → told ≡ at_end at d → told ≡ judged_of bytes
judging_ends {bytes} {at} {d} j h e =
    e ∙ sym (judged_end j.more bytes at d (le_antisymm j.inside h)) ∙ j.rest

-- Laying: what is laid from an offset on, over this memory, is what the whole image means.

pub record Laying (bytes : List ℕ) (size : ℕ) (at : ℕ) (memory : List ℕ) : Type 0 where
  pub inside : at ≤ length bytes
  pub more : ℕ
  pub enough : length bytes ≤ at + more
  pub rest : laid_from more bytes at memory ≡ memory_of bytes size

pub laying_begins : (bytes : List ℕ) (size : ℕ) {memory : List ℕ} → memory ≡ replicate size 0 → Laying bytes size 0 memory
unfolding memory_of
laying_begins bytes size e = rw e (record { inside = omega arith; more = length bytes; enough = omega arith; rest = refl })

laid_turn : (more : ℕ) (bytes : List ℕ) (at : ℕ) (memory : List ℕ) {r : Record}
    → at < length bytes → length bytes ≤ at + more → cut image_kinds bytes at ≡ Some r
    → laid_from more bytes at memory ≡ laid_from (more - 1) bytes (end_of r) (record_laid bytes r memory)
unfolding laid_from piece_laid
laid_turn zero bytes at memory h enough is = absurd (omega arith)
laid_turn (suc more) bytes at memory h enough is =
    let one_less : suc more - 1 ≡ more = omega arith in
    rw (is, one_less)

pub laying_goes_on : {bytes : List ℕ} {size at : ℕ} {memory next : List ℕ} {piece : Option Record} {r : Record}
    → Laying bytes size at memory → piece ≡ cut image_kinds bytes at → piece ≡ Some r
    → next ≡ record_laid bytes r memory
    → Laying bytes size (r.payload + r.size) next
unfolding end_of
laying_goes_on {bytes} {size} {at} {memory} {next} l is whole e =
    let place = cut_inside bytes at is whole in
    let h : at < length bytes = omega (arith, place.0) in
    record {
      inside = place.1;
      more = l.more - 1;
      enough = omega (arith, place.0, l.enough);
      rest = rw e (sym (laid_turn l.more bytes at memory h l.enough (sym is ∙ whole)) ∙ l.rest);
    }

-- where nothing is cut nothing more is laid, whatever number of turns is left
laid_refused : (more : ℕ) (bytes : List ℕ) (at : ℕ) (memory : List ℕ) → cut image_kinds bytes at ≡ None
    → laid_from more bytes at memory ≡ memory
unfolding laid_from piece_laid
laid_refused zero bytes at memory e = refl
laid_refused (suc more) bytes at memory e = rw e

pub laying_stops : {bytes : List ℕ} {size at : ℕ} {memory : List ℕ} {piece : Option Record}
    → Laying bytes size at memory → piece ≡ cut image_kinds bytes at → piece ≡ None
    → memory ≡ memory_of bytes size
laying_stops {bytes} {size} {at} {memory} l is none =
    sym (laid_refused l.more bytes at memory (sym is ∙ none)) ∙ l.rest

-- The ways out of load.

module _ (bytes memory : List ℕ) {judged : Judged} (is : judged ≡ judged_of bytes) where
  pub load_broken : {bad : Broken} {told : Loaded} → judged ≡ Err bad
      → told ≡ record { answer = BrokenImage; machine = blank; budget = 0; offset = bad.offset }
      → left_by_load told memory ≡ load_of bytes memory
  unfolding load_of loaded_by refused_load answers answer_number
  load_broken verdict e = rw (e, ← is, verdict)

  pub load_misfits : {image : Image} {told : Loaded} → judged ≡ Ok image → (length memory ≡ PAGE * image.machine.m → ⊥)
      → told ≡ record { answer = WrongMemory; machine = blank; budget = 0; offset = 0 }
      → left_by_load told memory ≡ load_of bytes memory
  unfolding load_of loaded_by loaded_into refused_load answers answer_number
  load_misfits verdict misfits e = rw (e, ← is, verdict, ne_eqb _ _ misfits)

  pub load_done : {image : Image} {after : List ℕ} → judged ≡ Ok image → length memory ≡ PAGE * image.machine.m
      → after ≡ memory_of bytes (length memory)
      → left_by_load (record { answer = Done; machine = image.machine; budget = image.budget; offset = 0 }) after
      ≡ load_of bytes memory
  unfolding load_of loaded_by loaded_into
  load_done verdict fits e = rw (e, ← is, verdict, eq-eqb _ _ fits)
