-- The blank machine, and what a refused load gives back.
use Rattle.std.specs.Prelude.{ℕ, false, cond, replicate, None}
use Rattle.model.specs.declared.Registers.{Registers}
use Rattle.model.specs.declared.Mode.TheVariants.{Halted}
use Rattle.model.specs.declared.Machine.{Machine}
use Rattle.model.specs.declared.Answer.{Answer}
use Rattle.model.specs.declared.Loaded.{Loaded}
use Rattle.model.specs.Constants.{GUESTS, PAGES, HANDLES}
use Rattle.model.specs.State.{page, primary}
use Rattle.model.specs.Answer.{answers}
use Rattle.model.specs.Row.{free_row}
use Rattle.model.specs.Deeds.{freed}

unfoldable pub blank_registers : Registers
blank_registers = record { r = replicate 8 0; pc = 0; equal = false }

-- no guest, no page, guest 0 current, halted, and every place blank
unfoldable pub blank : Machine
blank =
    record {
      n = 0;
      m = 0;
      registers = replicate GUESTS blank_registers;
      mailboxes = replicate GUESTS (record { tx = page 0; rx = page 0 });
      inboxes = replicate GUESTS None;
      records = replicate PAGES (free_row None);
      transactions = replicate HANDLES freed;
      current = primary;
      mode = Halted;
    }

-- the blank machine and no budget; the offset is told only of a broken image
unfoldable pub refused_load : Answer → ℕ → Loaded
refused_load answer offset =
    record { answer = answer; machine = blank; budget = 0; offset = cond (answers answer 4) offset 0 }
