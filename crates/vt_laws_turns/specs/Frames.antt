pub mod Detached
pub mod InTurn
pub mod Unraised
