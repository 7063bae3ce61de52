mod Alike
mod Climbing
pub mod Judged
pub mod NumbersBeside
pub mod Refusals
mod RenameLemmas
pub mod Rows
