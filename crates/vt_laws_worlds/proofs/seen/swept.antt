-- What the proofs of src/swept.rt use.
pub mod AnyOrder
pub mod Inodes
pub mod Stages
pub mod Wholes
