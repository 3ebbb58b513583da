-- Laws that the proofs of the entries share.
pub mod Answers
pub mod Waiting
pub mod Walks
pub mod Settled
pub mod Shaped
