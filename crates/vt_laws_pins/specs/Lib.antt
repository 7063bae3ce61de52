pub mod Gone
pub mod Above
pub mod Counted
