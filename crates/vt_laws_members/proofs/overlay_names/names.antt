-- What the proofs of src/names.rt use.
pub mod Detaching
pub mod HidingEnding
pub mod LayersAlike
pub mod OverlayEnding
pub mod OverlayNaming
pub mod OverlayNewOpens
pub mod OverlayRemovals
pub mod Raising
pub mod SteppedAlike
pub mod SteppedReady
