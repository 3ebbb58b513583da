-- Laws that the proofs of the clauses share.
pub mod Each
pub mod Tested
pub mod Asked
pub mod Marked
pub mod Dues
pub mod Whole
