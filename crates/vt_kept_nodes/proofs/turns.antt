-- What the proofs of src/turns.rt use.
pub mod Rows
pub mod Turned
