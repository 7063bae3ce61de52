-- What the proofs of src/later.rt use.
pub mod AfterRemoval
pub mod AfterRename
pub mod CreatedSeen
pub mod LeadsStill
pub mod RemovalFits
pub mod RenameFits
pub mod RenameWays
pub mod SettledRoots
pub mod WaysLeft
pub mod WaysMounts
pub mod WaysRemoved
