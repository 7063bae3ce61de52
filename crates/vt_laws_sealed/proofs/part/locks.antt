-- What the proofs of src/locks.rt use.
pub mod LockedTrees
