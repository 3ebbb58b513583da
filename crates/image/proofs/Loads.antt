-- The theorems about loading: what a load answers, where the bad record of a broken image stands, and what a loaded machine is.
-- Assumes nothing.
use Prim.Native.Nat.{ℕ, zero, suc, ◌*◌, ◌≤◌}
use Rattle.std.specs.Prelude.{Option, Some, None, Ok, Err}
use mathlib.Core.Path.{◌≡◌, refl, ap, ◌∙◌}
use mathlib.Core.Bool.{Bool, true, false}
use mathlib.Core.List.{List}
use native.Mathlib.Omega.{arith}
use lib.ListN.{length, replicate, length-replicate}
use lib.Dec.{eqb}
use borrow.Author.Tests.{eqb-true, eqb-false, eq-eqb}
use Rattle.model.specs.declared.Machine.{Machine}
use Rattle.model.specs.declared.Answer.TheVariants.{Done}
use Rattle.model.specs.Constants.{PAGE}
use Rattle.model.specs.Answer.{answer_number, answers}
use Rattle.model.specs.Blank.{refused_load}
use Rattle.model.specs.Sound.{Sound}
use Rattle.model.specs.Entries.{judged, check_of}
use Rattle.model.proofs.Tests.{length_set_each}
use Rattle.model.proofs.Sound.{holds_sound}
use Rattle.image.specs.declared.Record.{Record}
use Rattle.image.specs.declared.Content.{Content}
use Rattle.image.specs.declared.Content.TheVariants.{Counts, Described, Owned, Words, Budget}
use Rattle.image.specs.declared.Image.{Image}
use Rattle.image.specs.declared.Broken.{Broken}
use Rattle.image.specs.Pieces.{image_kinds, cut}
use Rattle.image.specs.Contents.{content_of}
use Rattle.image.specs.Drafts.{begun}
use Rattle.image.specs.Judging.{Judged, broken, good, ended_with, at_end, judged_of}
use Rattle.image.specs.Laying.{words_laid, content_laid, record_laid, piece_laid, laid_from, memory_of}
use Rattle.image.specs.Loading.{Put, loaded_into, loaded_by, load_of}
use Rattle.image.specs.Loads.{LoadedPasses, Fresh, LoadedFresh, BadOffsetInside}
use Rattle.image.specs.Loads.{Checked, done, wrong_memory, broken_image, Untouched, LoadAnswers}
use Rattle.image.proofs.Cutting.{cut_whole}
use Rattle.image.proofs.Drafting.{Built, judged_along, judged_built}
use Rattle.image.proofs.Sounding.{built_sound}

-- What a load answers, by the verdict and by whether the memory fits.

-- a load that answers 0: the verdict is good, and the memory fits
record Filled (bytes memory : List ℕ) (judged : Judged) (p : Put) : Type 0 where
  said : judged ≡ good p.result.machine p.result.budget
  fitting : length memory ≡ PAGE * p.result.machine.m
  laid : p.memory ≡ memory_of bytes (length memory)
  untold : p.result.offset ≡ 0

-- what a load leaves that goes by this verdict
record Left (bytes memory : List ℕ) (judged : Judged) (p : Put) : Type 0 where
  answers : judged_of bytes ≡ judged → Checked bytes memory p.result
  refuses : (answer_number p.result.answer ≡ 0 → ⊥) → Untouched memory p
  fills : answer_number p.result.answer ≡ 0 → Filled bytes memory judged p

left_into : (bytes memory : List ℕ) (image : Image) (fits : Bool)
    → eqb (length memory) (PAGE * image.machine.m) ≡ fits
    → Left bytes memory (Ok image) (loaded_into fits bytes image memory)
unfolding loaded_into answer_number answers refused_load
left_into bytes memory image true e =
    record {
      answers = λ v. done refl v (eqb-true _ _ e);
      refuses = λ never. absurd (never refl);
      fills = λ done-is-0. record { said = refl; fitting = eqb-true _ _ e; laid = refl; untold = refl };
    }
left_into bytes memory image false e =
    record {
      answers = λ v. wrong_memory image.machine image.budget refl v (eqb-false _ _ e);
      refuses = λ never. record { blank_machine = refl; no_budget = refl; offset_of_4 = λ other. refl; not_moved = refl };
      fills = λ done-is-0. absurd (omega arith);
    }

left_by : (bytes memory : List ℕ) (judged : Judged) → Left bytes memory judged (loaded_by judged bytes memory)
unfolding loaded_by answer_number answers refused_load
left_by bytes memory (Err bad) =
    record {
      answers = λ v. broken_image refl v;
      refuses = λ never. record { blank_machine = refl; no_budget = refl; offset_of_4 = λ other. absurd (other refl); not_moved = refl };
      fills = λ done-is-0. absurd (omega arith);
    }
left_by bytes memory (Ok image) = left_into bytes memory image _ refl

pub load_answers : (bytes memory : List ℕ) → LoadAnswers bytes memory
unfolding load_of
load_answers bytes memory =
    let left = left_by bytes memory (judged_of bytes) in
    record {
      answers = left.answers refl;
      refuses = left.refuses;
      loads = λ zero.
          record {
            its_machine = (left.fills zero).said;
            its_words = (left.fills zero).laid;
            no_offset = (left.fills zero).untold;
          };
    }

-- The offset of a broken image.

-- a verdict tells of no bad record, or of one that does not lie behind the end
abbrev ToldInside : List ℕ → Judged → Type 0
ToldInside bytes judged = (offset : ℕ) → judged ≡ broken offset → offset ≤ length bytes

break_inside : (bytes : List ℕ) (at : ℕ) → at ≤ length bytes → ToldInside bytes (broken at)
break_inside bytes at inside offset e =
    let here : Broken = record { offset = at } in
    let told : Broken = record { offset = offset } in
    let same : here ≡ told = cc in
    omega (arith, ap (λ (b : Broken). b.offset) same)

end_inside : (bytes : List ℕ) (at : ℕ) (machine : Machine) (budget : Option ℕ) → at ≤ length bytes
    → ToldInside bytes (ended_with at machine budget)
unfolding ended_with
end_inside bytes at machine None inside offset e = break_inside bytes at inside offset e
end_inside bytes at machine (Some budget) inside offset e = cc

pub bad_offset_inside : BadOffsetInside
unfolding judged_of at_end
bad_offset_inside bytes =
    judged_along
    bytes
    (λ at d. at ≤ length bytes)
    (ToldInside bytes)
    (record {
      ends = λ at d inside. end_inside bytes at d.machine d.budget inside;
      breaks = λ at d inside. break_inside bytes at inside;
      goes = λ at d r content inside here says stands. (cut_whole image_kinds bytes at here).1;
    })
    (length bytes) 0 begun (omega arith)

-- A loaded machine.

loaded_filled : (bytes memory : List ℕ) → answer_number (load_of bytes memory).result.answer ≡ 0
    → Filled bytes memory (judged_of bytes) (load_of bytes memory)
unfolding load_of
loaded_filled bytes memory e = (left_by bytes memory (judged_of bytes)).fills e

built_fresh : (m : Machine) → Built m → Fresh m
built_fresh m c =
    record {
      registers_zero = c.guests.zero_registers;
      flags_clear = c.guests.clear_flag;
      nothing_waits = c.still.nothing_waits;
      handles_free = c.still.handles_free;
      current_is_primary = c.still.current_is_primary;
      mode_is_normal = c.still.mode_is_normal;
    }

pub loaded_fresh : LoadedFresh
loaded_fresh bytes memory e =
    let filled = loaded_filled bytes memory e in
    built_fresh _ (judged_built bytes _ _ filled.said)

-- The memory's length stays, record by record.

content_length : (bytes : List ℕ) (r : Record) (said : Option Content) (memory : List ℕ)
    → length (content_laid bytes r said memory) ≡ length memory
unfolding content_laid words_laid
content_length bytes r None memory = refl
content_length bytes r (Some (Counts n m)) memory = refl
content_length bytes r (Some (Described g tx rx pc)) memory = refl
content_length bytes r (Some (Owned p g)) memory = refl
content_length bytes r (Some (Words x k)) memory = length_set_each k _ _ memory
content_length bytes r (Some (Budget steps)) memory = refl

piece_length : (bytes : List ℕ) (piece : Option Record) (memory : List ℕ) (rest : ℕ → List ℕ → List ℕ)
    → ((at : ℕ) (left : List ℕ) → length (rest at left) ≡ length left)
    → length (piece_laid bytes piece memory rest) ≡ length memory
unfolding piece_laid record_laid
piece_length bytes None memory rest keeps = refl
piece_length bytes (Some r) memory rest keeps = keeps _ _ ∙ content_length bytes r (content_of bytes r) memory

laid_length : (more : ℕ) (bytes : List ℕ) (at : ℕ) (memory : List ℕ) → length (laid_from more bytes at memory) ≡ length memory
unfolding laid_from
laid_length zero bytes at memory = refl
laid_length (suc more) bytes at memory =
    piece_length bytes (cut image_kinds bytes at) memory (laid_from more bytes) (laid_length more bytes)

memory_length : (bytes : List ℕ) (size : ℕ) → length (memory_of bytes size) ≡ size
unfolding memory_of
memory_length bytes size = laid_length (length bytes) bytes 0 (replicate size 0) ∙ length-replicate size 0

-- memory that fits and a sound machine pass
check_passes : (m : Machine) (memory : List ℕ) → length memory ≡ PAGE * m.m → Sound m → check_of m memory ≡ Done
unfolding check_of judged
check_passes m memory fitting whole = rw (eq-eqb _ _ fitting, holds_sound m whole)

pub loaded_passes : LoadedPasses
loaded_passes bytes memory e =
    let filled = loaded_filled bytes memory e in
    rw filled.laid
    (check_passes _ _
    (memory_length bytes (length memory) ∙ filled.fitting)
    (built_sound _ (judged_built bytes _ _ filled.said)))
