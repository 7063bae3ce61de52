pub mod Overlaps
pub mod Laws
