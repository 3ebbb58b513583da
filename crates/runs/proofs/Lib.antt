-- Laws that the proof of the loop is made of.
pub mod Resumes
pub mod Effects
pub mod Fits
pub mod Ready
pub mod Rounds
