-- What is proved of the parts' functions beside their contracts: laws of numbers and tests that several of them use.
pub mod Sets
pub mod Loops
pub mod Named
pub mod Held
pub mod Rows
pub mod Answers
