-- What the proofs of src/mounting_overlays.rt use.
pub mod MountingWithOverlays
