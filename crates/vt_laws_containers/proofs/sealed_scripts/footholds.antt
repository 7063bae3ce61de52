-- What the proofs of src/footholds.rt use.
pub mod Footholds
