pub mod Counters
pub mod Ends
pub mod Numbers
