pub mod Retyping
pub mod Leaving
