pub mod Members
pub mod Outsiders
pub mod Seen
