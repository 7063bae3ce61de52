pub mod Aims
pub mod Passing
pub mod Past
