-- What the proofs of src/mounts.rt use.
pub mod MountPointSpots
pub mod MountsApart
pub mod MountsAttached
pub mod MountsCounted
pub mod MountsEnding
pub mod MountsFound
pub mod MountsGranted
pub mod MountsKept
pub mod MountsLeft
pub mod MountsNumbered
pub mod MountsPlaces
pub mod MountsReplaced
pub mod MountsRetyped
pub mod Receivers
pub mod Standing
