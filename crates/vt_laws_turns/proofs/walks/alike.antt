-- What the proofs of src/alike.rt use.
pub mod MountsAlike
pub mod NodesAlike
pub mod StepsAlike
pub mod Seeing
pub mod WalkersAlike
pub mod InTurn
