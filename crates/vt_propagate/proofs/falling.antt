-- What the proofs of src/falling.rt use.
pub mod Fallen
pub mod GoneSets
