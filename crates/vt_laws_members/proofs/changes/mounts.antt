-- What the proofs of src/mounts.rt use.
pub mod FlagsLeft
pub mod Remounting
