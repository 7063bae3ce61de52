-- What the proofs of src/changed.rt use.
pub mod ByLayers
pub mod ChangedOverlays
