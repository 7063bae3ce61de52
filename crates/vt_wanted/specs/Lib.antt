pub mod Entries
pub mod Headers
