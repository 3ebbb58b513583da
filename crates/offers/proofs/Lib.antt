-- Laws of a sending.
pub mod Offer
