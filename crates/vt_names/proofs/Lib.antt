pub mod Nodes
pub mod Filtered
pub mod Places
pub mod Answers
pub mod Says
