pub mod Each
pub mod EachHas
pub mod Permuted
