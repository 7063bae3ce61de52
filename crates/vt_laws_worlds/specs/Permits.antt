pub mod InUse
pub mod Left
pub mod Named
pub mod Same
pub mod Sees
pub mod Steps
pub mod Taken
