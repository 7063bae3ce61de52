-- What the proofs of src/groups.rt use.
pub mod Ending
pub mod Found
pub mod GrownMaps
pub mod LeavingTypes
pub mod Members
pub mod Relatives
