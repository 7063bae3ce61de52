-- What the proofs of src/sweeps.rt use.
pub mod InUse
pub mod Inodes
pub mod LookedUp
pub mod Merged
pub mod MergedSteps
pub mod OfWorlds
pub mod OneByOne
pub mod OverlaysGone
pub mod UpperUses
pub mod UsesCounted
pub mod WithOverlays
