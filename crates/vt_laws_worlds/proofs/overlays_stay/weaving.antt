-- What the proofs of src/weaving.rt use.
pub mod LeftWoven
pub mod WovenLists
