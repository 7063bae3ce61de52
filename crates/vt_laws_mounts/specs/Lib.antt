pub mod Mounts
pub mod LettingGo
pub mod Counts
