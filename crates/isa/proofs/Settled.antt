-- The contracts of `decode` and `encode`, and of the two functions that show their fields, take any input and leave no choice
-- of the result.
-- Assumes nothing.
use Prim.Native.Nat.{ℕ}
use mathlib.Core.Path.{◌≡◌, sym, ◌∙◌}
use mathlib.Core.List.{List}
use contract.Lifetimes.{Lfts}
use borrow.Fn.Kinds.{ParamKind, ResultKind, Dens, res_t, In, Out, ended_of}
use denote.Triple.Clauses.{AtExit}
use Rattle.isa.proofs.decode.Kinds as decode-kinds
use Rattle.isa.proofs.decode.Reads as decode-reads
use Rattle.isa.proofs.encode.Kinds as encode-kinds
use Rattle.isa.proofs.encode.Reads as encode-reads
use Rattle.isa.proofs.fields_of.Kinds as fields-kinds
use Rattle.isa.proofs.fields_of.Reads as fields-reads
use Rattle.isa.proofs.legal.Kinds as legal-kinds
use Rattle.isa.proofs.legal.Reads as legal-reads

-- a contract asks nothing of the arguments
abbrev pub TakesAny : {n : ℕ} (ps : List (ParamKind n)) → In n ps → Type 0
TakesAny {n} ps asked = (κs : Lfts n) (args : Dens κs ps) → asked κs args

-- any two results that a contract allows for the same arguments are equal, whatever is lent holds at exit
abbrev pub Settled : {n : ℕ} (ps : List (ParamKind n)) (r : ResultKind n) → Out n ps r → Type 0
Settled {n} ps r post =
    (κs : Lfts n) (args : Dens κs ps) (x y : (res_t r κs).Denot) (u v : AtExit (ended_of n ps r) κs) →
    post κs args x u →
    post κs args y v →
    x ≡ y

pub decode_takes_any : TakesAny decode-kinds.ps decode-reads.Asked
decode_takes_any κs args = tt

pub encode_takes_any : TakesAny encode-kinds.ps encode-reads.Asked
encode_takes_any κs args = tt

pub decode_settled : Settled decode-kinds.ps decode-kinds.r decode-reads.Post
decode_settled κs args x y u v p q = p ∙ sym q

pub encode_settled : Settled encode-kinds.ps encode-kinds.r encode-reads.Post
encode_settled κs args x y u v p q = p ∙ sym q

pub fields_of_takes_any : TakesAny fields-kinds.ps fields-reads.Asked
fields_of_takes_any κs args = tt

pub legal_takes_any : TakesAny legal-kinds.ps legal-reads.Asked
legal_takes_any κs args = tt

pub fields_of_settled : Settled fields-kinds.ps fields-kinds.r fields-reads.Post
fields_of_settled κs args x y u v p q = p ∙ sym q

pub legal_settled : Settled legal-kinds.ps legal-kinds.r legal-reads.Post
legal_settled κs args x y u v p q = p ∙ sym q
