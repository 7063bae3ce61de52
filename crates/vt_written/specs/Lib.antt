pub mod Json
pub mod Objects
