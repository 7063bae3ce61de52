pub mod Limits
pub mod PathWords
