-- What the proofs of src/mounting.rt use.
pub mod Kept
pub mod Reached
pub mod Walked
