-- What the functions behind the calls ask, besides the model's definitions.
pub mod Deeds
