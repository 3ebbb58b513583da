-- What the test of soundness goes by, besides the model's definition.
pub mod Known
pub mod Marks
pub mod Rows
