-- Laws that the proofs of the bench share.
pub mod Courses
pub mod Turns
pub mod Reaching
pub mod Putting
pub mod Printed
