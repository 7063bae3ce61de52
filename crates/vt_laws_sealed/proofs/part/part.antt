-- What the proofs of src/part.rt use.
pub mod DeadMounts
pub mod FlagsInPart
pub mod MountsOver
pub mod Observed
pub mod PartOfPart
pub mod UnusedFilesystems
