pub mod Listed
pub mod Alike
mod counting
