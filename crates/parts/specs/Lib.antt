-- What the parts' functions answer and ask, where the model has no name for it.
pub mod Numbers
pub mod Reached
pub mod Refusal
