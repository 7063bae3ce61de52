-- What the proofs of src/counts.rt use.
pub mod Located
pub mod Swept
