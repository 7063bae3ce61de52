-- What the proofs of src/removals.rt use.
pub mod Going
pub mod Removing
pub mod StillUsed
pub mod TreeParts
pub mod WithTree
