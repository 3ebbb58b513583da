-- What a bench comes to, and what it tells.
pub mod Course
pub mod Ended
pub mod Reached
pub mod Told
pub mod Printed
