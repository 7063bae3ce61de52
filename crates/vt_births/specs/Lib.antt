pub mod Births
pub mod Kept
pub mod KeptObjects
