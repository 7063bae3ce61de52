pub mod Kept
pub mod Overlaps
pub mod Counts
pub mod Staying
