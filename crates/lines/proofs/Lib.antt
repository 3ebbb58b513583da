-- Laws of texts laid one behind the other and of digits, and the worked texts.
pub mod Laying
pub mod Counting
pub mod Written
pub mod Examples
