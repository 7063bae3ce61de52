-- What the proofs of src/ends.rt use.
pub mod Ending
pub mod EndingCounts
pub mod EndingLazy
pub mod EndingLazyCounts
pub mod EndingOrder
pub mod EndingStanding
pub mod Unmounting
pub mod UnmountingEnds
pub mod UnmountingGoes
pub mod UnmountingNamespaces
pub mod UnmountingPlaces
pub mod UnmountingTrees
