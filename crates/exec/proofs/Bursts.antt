-- A burst leaves the memory as long as it was, and rights that allow the same instructions give the same burst: so do the
-- current guest's rights and their maps.
use Rattle.std.proofs.Common.{◌≡◌, ℕ, zero, suc, ◌*◌, List, length, refl, ap, ◌∙◌}
use Rattle.model.specs.declared.Registers.{Registers}
use Rattle.model.specs.declared.Machine.{Machine}
use Rattle.model.specs.Constants.{PAGE}
use Rattle.model.specs.State.{own_mailbox}
use Rattle.model.specs.Rights.{Rights, rights}
use Rattle.model.specs.Execute.{Move, guest_step}
use Rattle.exec.specs.declared.instruction.Stop.{Stop}
use Rattle.exec.specs.declared.instruction.Stop.TheVariants.{Moved, Called, Faulted, Halted}
use Rattle.exec.specs.Maps.{by_maps, pages_for}
use Rattle.exec.specs.Turn.{Turn, ends, turn_of}
use Rattle.exec.specs.Burst.{Burst, go_on, burst_of}
use Rattle.exec.proofs.Reach.{own_rights}
use Rattle.exec.proofs.Turns.{turn_length}

-- The memory's length.

on_length : (stop : Stop) (t : Turn) (left : ℕ) (on : Registers → List ℕ → Burst)
    → length (on t.file t.memory).last.memory ≡ length t.memory
    → length (go_on stop t left on).last.memory ≡ length t.memory
unfolding go_on
on_length Moved t left on e = e
on_length Called t left on e = refl
on_length Faulted t left on e = refl
on_length Halted t left on e = refl

pub burst_length : (rights : Rights) (budget : ℕ) (file : Registers) (memory : List ℕ)
    → length (burst_of rights budget file memory).last.memory ≡ length memory
unfolding burst_of
burst_length rights zero file memory = refl
burst_length rights (suc budget) file memory =
    let t = turn_of rights file memory in
    on_length t.stop t budget (burst_of rights budget) (burst_length rights budget t.file t.memory)
    ∙ turn_length rights file memory

-- Rights that allow the same instructions.

on_same : (stop : Stop) (t : Turn) (left : ℕ) (on to : Registers → List ℕ → Burst)
    → on t.file t.memory ≡ to t.file t.memory → go_on stop t left on ≡ go_on stop t left to
unfolding go_on
on_same Moved t left on to e = e
on_same Called t left on to e = refl
on_same Faulted t left on to e = refl
on_same Halted t left on to e = refl

-- two rights with the same steps, at a memory of some length, have the same bursts there
pub same_burst : (a b : Rights) (words : ℕ)
    → ((file : Registers) (memory : List ℕ) → length memory ≡ words → guest_step a file memory ≡ guest_step b file memory)
    → (budget : ℕ) (file : Registers) (memory : List ℕ) → length memory ≡ words
    → burst_of a budget file memory ≡ burst_of b budget file memory
unfolding burst_of turn_of
same_burst a b words same zero file memory h = refl
same_burst a b words same (suc budget) file memory h =
    let t = turn_of b file memory in
    ap (λ (x : Move). go_on (ends x file memory).stop (ends x file memory) budget (burst_of a budget)) (same file memory h)
    ∙ on_same t.stop t budget (burst_of a budget) (burst_of b budget)
    (same_burst a b words same budget t.file t.memory (turn_length b file memory ∙ h))

-- the current guest's rights as maps
abbrev pub own_maps : Machine → Rights
own_maps m =
    by_maps
    (pages_for m.records m.m m.current (own_mailbox m).tx)
    (pages_for m.records m.m m.current (own_mailbox m).rx)

pub burst_rights : (m : Machine) (budget : ℕ) (file : Registers) (memory : List ℕ) → length memory ≡ PAGE * m.m
    → burst_of (own_maps m) budget file memory ≡ burst_of (rights m) budget file memory
burst_rights m = same_burst (own_maps m) (rights m) (PAGE * m.m) (own_rights m)
