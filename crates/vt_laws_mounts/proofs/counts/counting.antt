pub mod Times
pub mod Entries
pub mod Counts
