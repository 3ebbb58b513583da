-- The meaning of instruction words, and what is promised of it.
pub mod Tests
pub mod Opcodes
pub mod Word
pub mod Decode
pub mod Encode
pub mod Promises
