-- What the proofs of src/whole.rt use.
pub mod ApartInvariants
pub mod ApartLater
pub mod ApartPairs
pub mod ApartPaths
pub mod ApartReached
pub mod ApartThere
pub mod UpperGoes
pub mod UpperLimits
pub mod UpperMade
pub mod UpperMoved
pub mod UpperNames
pub mod UpperOwn
pub mod UpperRemoved
pub mod UpperSizes
pub mod UpperTold
pub mod UpperWhole
