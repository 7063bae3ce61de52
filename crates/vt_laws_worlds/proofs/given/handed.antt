-- What the proofs of src/handed.rt use.
pub mod Places
