-- The choice of a call, as the code makes it.
pub mod Choice
