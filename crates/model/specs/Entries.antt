-- What each entry answers, for every machine, memory and argument, refused ones too.
use Rattle.std.specs.Prelude.{ℕ, zero, suc, ◌+◌, ◌*◌, Bool, true, false, cond, List, [], length, take, drop, ltb, eqb}
use Rattle.isa.specs.Tests.{◌and◌}
use Rattle.model.specs.declared.VmId.{VmId}
use Rattle.model.specs.declared.Mode.{Mode}
use Rattle.model.specs.declared.Machine.{Machine}
use Rattle.model.specs.declared.Answer.{Answer}
use Rattle.model.specs.declared.Answer.TheVariants.{Done, WrongMemory, Unsound, Stopped}
use Rattle.model.specs.declared.Stepped.{Stepped}
use Rattle.model.specs.declared.Ran.{Ran}
use Rattle.model.specs.Constants.{PAGE}
use Rattle.model.specs.State.{State, state, mailbox_at, inbox_at, length_of, is_normal}
use Rattle.model.specs.Answer.{is_done}
use Rattle.model.specs.Sound.{sound}
use Rattle.model.specs.Memory.{base_of}
use Rattle.model.specs.Call.{call_effect}
use Rattle.model.specs.Step.{step_effect}

-- check: memory must fit, and then the machine be sound
unfoldable pub judged : Bool → Bool → Answer
judged false isSound = WrongMemory
judged true false = Unsound
judged true true = Done

unfoldable pub check_of : Machine → List ℕ → Answer
check_of m memory = judged (eqb (length memory) (PAGE * m.m)) (sound m)

-- step and call also want the mode normal, once the check has passed
unfoldable pub then_mode : Answer → Mode → Answer
then_mode answer mode = cond (is_done answer) (cond (is_normal mode) Done Stopped) answer

-- what step and call leave: their result, and the memory
pub record Acted : Type 0 where
  pub result : Stepped
  pub memory : List ℕ

abbrev pub acted : Answer → State → Acted
acted answer s = record { result = record { answer = answer; machine = s.machine }; memory = s.memory }

-- the effect where the answer is 0; a refusal leaves the state as it was
unfoldable pub acted_by : Answer → (State → State) → State → Acted
acted_by answer effect s = acted answer (elim (is_done answer) [ true ↦ effect s | false ↦ s ])

unfoldable pub step_of : Machine → List ℕ → Acted
step_of m memory = acted_by (then_mode (check_of m memory) m.mode) step_effect (state m memory)

unfoldable pub call_of : Machine → List ℕ → Acted
call_of m memory = acted_by (then_mode (check_of m memory) m.mode) call_effect (state m memory)

-- a run: steps while the mode is normal and the budget lasts, and their number
pub record Progress : Type 0 where
  pub reached : State
  pub count : ℕ

abbrev pub still : State → Progress
still s = record { reached = s; count = 0 }

unfoldable pub one_more : Progress → Progress
one_more p = record { reached = p.reached; count = p.count + 1 }

unfoldable pub steps : ℕ → State → Progress
steps zero s = still s
steps (suc budget) s =
    elim (is_normal s.machine.mode) [ true ↦ one_more (steps budget (step_effect s)) | false ↦ still s ]

-- what run leaves: its result, and the memory
pub record Went : Type 0 where
  pub result : Ran
  pub memory : List ℕ

abbrev pub went : Answer → Progress → Went
went answer p =
    record
    { result = record { answer = answer; machine = p.reached.machine; count = p.count }; memory = p.reached.memory }

-- a refused run takes no step
unfoldable pub went_by : Answer → ℕ → State → Went
went_by answer budget s = went answer (elim (is_done answer) [ true ↦ steps budget s | false ↦ still s ])

unfoldable pub run_of : Machine → List ℕ → ℕ → Went
run_of m memory budget = went_by (check_of m memory) budget (state m memory)

-- message: the part of memory that waits for guest g, from the first word of its RX page
unfoldable pub waiting : Machine → List ℕ → VmId → List ℕ
waiting m memory g =
    cond
    (ltb g.0 m.n)
    (take (length_of (inbox_at m.inboxes g)) (drop (base_of (mailbox_at m.mailboxes g).rx) memory))
    []

unfoldable pub message_of : Machine → List ℕ → VmId → List ℕ
message_of m memory g = cond (is_done (check_of m memory)) (waiting m memory g) []

-- it begins with the first word of g's RX page; the empty part where there is no guest g, or the check refuses, with the first
-- word of all
unfoldable pub message_place : Machine → List ℕ → VmId → ℕ
message_place m memory g =
    cond (is_done (check_of m memory) and ltb g.0 m.n) (base_of (mailbox_at m.mailboxes g).rx) 0
