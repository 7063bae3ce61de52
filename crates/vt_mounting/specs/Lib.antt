pub mod Detach
pub mod Attach
