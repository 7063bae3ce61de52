-- What the proofs of src/kept.rt use.
pub mod KeptOverlays
