-- What the proofs of src/granted.rt use.
pub mod Mounts
