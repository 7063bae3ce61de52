pub mod WorldValue
pub mod Held
pub mod StoredWorld
pub mod Lent
pub mod OverlaysKept
pub mod OverlaysMade
pub mod Counting
