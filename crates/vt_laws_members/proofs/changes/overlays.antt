-- What the proofs of src/overlays.rt use.
pub mod CopiesEnding
pub mod Copying
pub mod OverlayEdits
pub mod OverlayOpens
