pub mod Allocating
pub mod Ends
pub mod Judged
pub mod PermitValue
