pub mod Forgetting
pub mod Looked
pub mod Counted
pub mod Left
pub mod Turns
