-- Theorems about images, and the laws that the proofs of the functions share.
pub mod Computed
pub mod Cutting
pub mod Reading
pub mod Turns
pub mod Drafting
pub mod Sounding
pub mod Loads
pub mod Settled
