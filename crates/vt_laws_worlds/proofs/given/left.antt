-- What the proofs of src/left.rt use.
pub mod Permits
