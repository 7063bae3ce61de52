-- What the proofs of src/left.rt use.
pub mod Given
pub mod Lowers
