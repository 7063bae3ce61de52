-- What the proofs of src/staying.rt use.
pub mod Applied
pub mod Paths
pub mod Named
pub mod Listed
