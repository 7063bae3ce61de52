-- What the proofs of src/outsiders.rt use.
pub mod LeftSealed
