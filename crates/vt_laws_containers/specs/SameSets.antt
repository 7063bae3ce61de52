pub mod Members
pub mod Outsiders
pub mod Sets
pub mod Turns
