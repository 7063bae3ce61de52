-- What the proofs of src/last_use.rt use.
pub mod OneLess
pub mod MountsAndFilesystems
pub mod OverlaysUnmounted
pub mod Groups
pub mod Namespaces
pub mod InodesLeft
pub mod UppersLeft
pub mod LocationsLeft
pub mod LastLocations
pub mod CallsOfTasks
