-- What the proofs of src/restarts.rt use.
pub mod Counting
pub mod Keeping
