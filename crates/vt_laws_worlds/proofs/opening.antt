-- What the proofs of src/opening.rt use.
pub mod OpeningWorld
