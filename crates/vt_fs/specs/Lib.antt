pub mod Trees
pub mod FilesystemsValue
pub mod Laws
pub mod Lends
