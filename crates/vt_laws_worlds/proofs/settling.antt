-- What the proofs of src/settling.rt use.
pub mod SettledMounts
pub mod SettledSeen
pub mod SettledTasks
pub mod SweptOnce
