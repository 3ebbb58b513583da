-- The lines of a bench as text: lists of byte codes, and where a text is laid in a buffer.
pub mod Text
pub mod Laid
pub mod Wrote
pub mod Examples
