pub mod TreeValue
pub mod Paths
pub mod Slots
pub mod Lends
pub mod Names
