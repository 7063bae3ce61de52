pub mod FullNamespaces
pub mod Room
pub mod Made
