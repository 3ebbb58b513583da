-- Laws that the proofs of this crate share.
pub mod Reach
pub mod Downward
pub mod Moves
pub mod Turns
pub mod Bursts
