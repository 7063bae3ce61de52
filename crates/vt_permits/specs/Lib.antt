pub mod GrantValue
pub mod Memory
pub mod Allocating
