-- Steps up to the end of a budget or to the next call, as the loop takes them.
pub mod Advance
