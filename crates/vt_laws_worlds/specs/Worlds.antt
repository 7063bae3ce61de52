-- The invariants of a world under calls and scripts.
pub mod Calls
pub mod Filesystems
pub mod Kept
pub mod Permits
pub mod Tasks
pub mod Swept
