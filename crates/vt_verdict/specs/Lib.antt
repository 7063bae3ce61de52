pub mod Compared
pub mod Counts
