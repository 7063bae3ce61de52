-- What the proofs of src/taken.rt use.
pub mod AttachedNamespaces
pub mod PartsKept
pub mod TakenAttached
pub mod TakenFirst
pub mod TakenGiven
pub mod TakenHanded
pub mod TakenJudged
pub mod TakenNumbers
pub mod TakenTypes
