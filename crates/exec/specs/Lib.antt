-- The maps of a guest's rights, one instruction and the inner loop, said over what the code of this crate holds: registers,
-- two maps of pages, and the memory.
pub mod Maps
pub mod Turn
pub mod Burst
pub mod Switch
