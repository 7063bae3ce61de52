pub mod Ends
pub mod Going
pub mod Kept
pub mod ProgressValue
pub mod SchedValue
pub mod Turned
