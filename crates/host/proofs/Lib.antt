-- Which way a host's run goes, and that its contract leaves no choice.
pub mod Ways
pub mod Settled
