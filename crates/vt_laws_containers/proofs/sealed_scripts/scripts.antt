-- What the proofs of src/scripts.rt use.
pub mod AsIfAlone
