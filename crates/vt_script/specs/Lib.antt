pub mod Handed
pub mod Progress
pub mod Reached
pub mod Refused
pub mod Session
pub mod SessionValue
pub mod Examples
