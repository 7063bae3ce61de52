-- What the proofs of src/inodes.rt use.
pub mod InodesInOrder
pub mod InodesAbove
