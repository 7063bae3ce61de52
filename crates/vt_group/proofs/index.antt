-- What the proofs of src/index.rt use.
pub mod Inheriting
