pub mod Events
pub mod Looking
pub mod Uses
pub mod Detached
pub mod Forking
pub mod NamespacesLeft
pub mod Stored
