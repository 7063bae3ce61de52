-- What the proofs of src/copied.rt use.
pub mod InTurn
pub mod Stepping
