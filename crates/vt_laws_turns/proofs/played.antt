-- What the proofs of src/played.rt use.
pub mod Fronts
pub mod Texts
pub mod Turning
pub mod Leaving
