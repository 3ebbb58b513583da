-- What the entries leave, as the model says it.
pub mod Left
pub mod Part
