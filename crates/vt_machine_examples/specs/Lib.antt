pub mod Opened
pub mod Queues
