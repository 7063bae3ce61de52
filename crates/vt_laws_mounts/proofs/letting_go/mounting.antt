-- What the proofs of src/mounting.rt use.
pub mod Attached
pub mod AttachedSwept
pub mod EventsInTurn
pub mod MountingLosers
pub mod MountingMoved
pub mod MountingOverlays
pub mod MountingTaken
pub mod MountsSwept
pub mod Pivoted
pub mod TakenBetween
pub mod TakenInTurn
pub mod Unmounted
