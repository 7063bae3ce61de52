-- What the proofs of src/copying.rt use.
pub mod Planning
