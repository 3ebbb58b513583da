-- The contracts of the entries take any input and leave no choice: any two outcomes that one allows for the same arguments,
-- the result and the lent memory as it returns together, are equal.
-- Assumes nothing.
use Prim.Native.Nat.{ℕ}
use mathlib.Core.Path.{◌≡◌, sym, ap, ◌∙◌}
use mathlib.Core.List.{List}
use contract.Lifetimes.{Lfts}
use borrow.Fn.Kinds.{ParamKind, ResultKind, Dens, res_t, Out, ended_of}
use denote.Ref.{Bor}
use denote.Triple.Clauses.{AtExit}
use Rattle.isa.proofs.Settled.{TakesAny, Settled}
use Rattle.model.specs.Entries.{Acted, Went}
use Rattle.model.specs.ToCall.{WentToCall}
use Rattle.image.specs.Loading.{Put}
use Rattle.creamtally.proofs.answer_number.Kinds as number-kinds
use Rattle.creamtally.proofs.answer_number.Reads as number-reads
use Rattle.creamtally.proofs.check.Kinds as check-kinds
use Rattle.creamtally.proofs.check.Reads as check-reads
use Rattle.creamtally.proofs.call.Kinds as call-kinds
use Rattle.creamtally.proofs.call.Reads as call-reads
use Rattle.creamtally.proofs.step.Kinds as step-kinds
use Rattle.creamtally.proofs.step.Reads as step-reads
use Rattle.creamtally.proofs.run.Kinds as run-kinds
use Rattle.creamtally.proofs.run.Reads as run-reads
use Rattle.creamtally.proofs.run_to_call.Kinds as leg-kinds
use Rattle.creamtally.proofs.run_to_call.Reads as leg-reads
use Rattle.creamtally.proofs.message.Kinds as message-kinds
use Rattle.creamtally.proofs.message.Reads as message-reads
use Rattle.creamtally.proofs.load.Kinds as load-kinds
use Rattle.creamtally.proofs.load.Reads as load-reads

-- any two outcomes that a contract allows for the same arguments are equal: the results, and the memory at exit
abbrev pub SettledLent : {n : ℕ} (ps : List (ParamKind n)) (r : ResultKind n) → Out n ps r
    → ((κs : Lfts n) → AtExit (ended_of n ps r) κs → List ℕ) → Type 0
SettledLent {n} ps r post memory =
    (κs : Lfts n) (args : Dens κs ps) (x y : (res_t r κs).Denot) (u v : AtExit (ended_of n ps r) κs) →
    post κs args x u →
    post κs args y v →
    (x ≡ y) × (memory κs u ≡ memory κs v)

-- any two results that a contract allows for the same arguments, each a part of what is lent, are the same words in the same
-- place
abbrev pub SettledPart : {n : ℕ} (ps : List (ParamKind n)) (r : ResultKind n) → Out n ps r
    → ((κs : Lfts n) → (res_t r κs).Denot → Bor (List ℕ)) → Type 0
SettledPart {n} ps r post part =
    (κs : Lfts n) (args : Dens κs ps) (x y : (res_t r κs).Denot) (u v : AtExit (ended_of n ps r) κs) →
    post κs args x u →
    post κs args y v →
    ((part κs x).now ≡ (part κs y).now) × ((part κs x).ref_ptr ≡ (part κs y).ref_ptr)

pub answer_number_takes_any : TakesAny number-kinds.ps number-reads.Asked
answer_number_takes_any κs args = tt

pub check_takes_any : TakesAny check-kinds.ps check-reads.Asked
check_takes_any κs args = tt

pub call_takes_any : TakesAny call-kinds.ps call-reads.Asked
call_takes_any κs args = tt

pub step_takes_any : TakesAny step-kinds.ps step-reads.Asked
step_takes_any κs args = tt

pub run_takes_any : TakesAny run-kinds.ps run-reads.Asked
run_takes_any κs args = tt

pub run_to_call_takes_any : TakesAny leg-kinds.ps leg-reads.Asked
run_to_call_takes_any κs args = tt

pub message_takes_any : TakesAny message-kinds.ps message-reads.Asked
message_takes_any κs args = tt

pub load_takes_any : TakesAny load-kinds.ps load-reads.Asked
load_takes_any κs args = tt

pub answer_number_settled : Settled number-kinds.ps number-kinds.r number-reads.Post
answer_number_settled κs args x y u v p q = p ∙ sym q

-- its memory is lent to be read
pub check_settled : Settled check-kinds.ps check-kinds.r check-reads.Post
check_settled κs args x y u v p q = p ∙ sym q

-- a contract that gives the result and the memory together settles both
both : {W R : Type 0} (result : W → R) (memory : W → List ℕ) {a b due : W} → a ≡ due → b ≡ due
    → (result a ≡ result b) × (memory a ≡ memory b)
both result memory p q = (ap result (p ∙ sym q), ap memory (p ∙ sym q))

pub call_settled : SettledLent call-kinds.ps call-kinds.r call-reads.Post (λ κs last. last.1.0.now)
call_settled κs args x y u v p q = both (λ (a : Acted). a.result) (λ a. a.memory) p q

pub step_settled : SettledLent step-kinds.ps step-kinds.r step-reads.Post (λ κs last. last.1.0.now)
step_settled κs args x y u v p q = both (λ (a : Acted). a.result) (λ a. a.memory) p q

pub run_settled : SettledLent run-kinds.ps run-kinds.r run-reads.Post (λ κs last. last.1.0.now)
run_settled κs args x y u v p q = both (λ (w : Went). w.result) (λ w. w.memory) p q

pub run_to_call_settled : SettledLent leg-kinds.ps leg-kinds.r leg-reads.Post (λ κs last. last.1.0.now)
run_to_call_settled κs args x y u v p q = both (λ (w : WentToCall). w.result) (λ w. w.memory) p q

pub message_settled : SettledPart message-kinds.ps message-kinds.r message-reads.Post (λ κs part. part)
message_settled κs args x y u v p q = (p.0 ∙ sym q.0, p.1 ∙ sym q.1)

pub load_settled : SettledLent load-kinds.ps load-kinds.r load-reads.Post (λ κs last. last.1.0.now)
load_settled κs args x y u v p q = both (λ (a : Put). a.result) (λ a. a.memory) p q
