-- What the proofs of src/part.rt use.
pub mod CutTrees
pub mod PartAgain
pub mod SettledPart
