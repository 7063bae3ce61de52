-- What the proofs of src/overlays.rt use.
pub mod SameOverlay
pub mod LayersTheirs
pub mod NewFilesystem
pub mod Mounting
