-- What the proofs of src/seals.rt use.
pub mod ByPart
