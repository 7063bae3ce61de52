pub mod Common
pub mod attached_apart
pub mod scripts
pub mod types_apart
pub mod unshared_apart
