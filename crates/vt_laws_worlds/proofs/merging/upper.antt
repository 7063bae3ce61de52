-- What the proofs of src/upper.rt use.
pub mod Asked
pub mod BelowKept
pub mod BelowMade
pub mod BelowRemoved
pub mod BelowWhole
pub mod Copying
pub mod Fronts
pub mod Places
pub mod UpperKinds
pub mod Worlds
