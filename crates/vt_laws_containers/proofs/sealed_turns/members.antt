-- What the proofs of src/members.rt use.
pub mod Answering
pub mod Grown
pub mod Numbers
pub mod OtherTasks
pub mod RoutesAlike
pub mod TurnsAlike
pub mod Overtaking
