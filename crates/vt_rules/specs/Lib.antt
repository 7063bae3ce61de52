pub mod Permitted
pub mod Places
pub mod Tables
