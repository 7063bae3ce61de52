-- What the proofs of src/events.rt use.
pub mod KeptOverlays
