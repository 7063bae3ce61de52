-- What the proofs of src/unmounting.rt use.
pub mod Here
