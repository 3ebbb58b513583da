-- What an image means.
pub mod Bytes
pub mod Pieces
pub mod Contents
pub mod Drafts
pub mod Judging
pub mod Laying
pub mod Loading
pub mod Loads
pub mod Worked
