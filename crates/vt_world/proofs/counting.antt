-- What the proofs of src/counting.rt use.
pub mod Lowered
