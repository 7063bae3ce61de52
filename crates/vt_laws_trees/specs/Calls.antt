pub mod Effects
pub mod Inodes
pub mod Tasks
pub mod Reached
pub mod Searched
