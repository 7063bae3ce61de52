pub mod Left
pub mod Kept
pub mod InUse
pub mod Named
pub mod Woven
