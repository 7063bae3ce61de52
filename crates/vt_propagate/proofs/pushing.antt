-- What the proofs of src/pushing.rt use.
pub mod PushedOnce
