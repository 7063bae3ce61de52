-- What the proofs of src/denials.rt use.
pub mod Unchanged
