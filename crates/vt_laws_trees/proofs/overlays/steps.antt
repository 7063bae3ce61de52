-- What the proofs of src/steps.rt use.
pub mod WholeAttributes
pub mod WholeCopied
pub mod WholeFree
pub mod WholeGrown
pub mod WholeLeft
pub mod WholeLines
pub mod WholeLinked
pub mod WholeMade
pub mod WholeMarked
pub mod WholeMoved
pub mod WholeMovedTree
pub mod WholeNames
pub mod WholeNew
pub mod WholeParts
pub mod WholePlaces
pub mod WholeRemoved
pub mod WholeStill
