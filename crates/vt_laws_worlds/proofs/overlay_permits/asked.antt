-- What the proofs of src/asked.rt use.
pub mod Asked
pub mod AskedOverlays
pub mod Unlocked
