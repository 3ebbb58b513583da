-- What the functions behind a sending are about, besides the model's definitions.
pub mod Descriptor
pub mod Sending
