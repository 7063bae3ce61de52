-- What the proofs of src/inodes.rt use.
pub mod InodesEntries
pub mod InodesLeft
pub mod InodesOwn
pub mod InodesPartLaws
pub mod InodesParts
pub mod InodesRemain
pub mod InodesSettled
