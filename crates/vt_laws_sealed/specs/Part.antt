pub mod Groups
pub mod Locked
pub mod Parts
pub mod Seals
pub mod Walks
