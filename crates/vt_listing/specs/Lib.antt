pub mod Shown
pub mod GroupsListed
