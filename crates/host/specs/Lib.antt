-- What the library for hosts leaves.
pub mod Hosted
