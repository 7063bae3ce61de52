pub mod Counting
pub mod Groups
pub mod GroupsKept
pub mod GroupsLiving
pub mod GroupsRetyped
pub mod GroupsUp
