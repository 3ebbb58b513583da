-- Laws of the choice.
pub mod Chosen
