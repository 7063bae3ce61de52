-- What the proofs of src/mounting.rt use.
pub mod NewOverlays
