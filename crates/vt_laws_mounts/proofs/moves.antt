-- What the proofs of src/moves.rt use.
pub mod Moving
pub mod MovingLeaves
pub mod MovingRoots
pub mod TreesMoved
