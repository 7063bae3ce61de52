pub mod Outsiders
pub mod Part
