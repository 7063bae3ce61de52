pub mod Lazily
pub mod Removals
