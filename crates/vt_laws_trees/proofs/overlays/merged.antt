-- What the proofs of src/merged.rt use.
pub mod Numbers
