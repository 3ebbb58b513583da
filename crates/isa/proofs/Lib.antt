-- What is proved of the definitions and of the contracts themselves.
pub mod Tests
pub mod Laws
pub mod Promises
pub mod Settled
