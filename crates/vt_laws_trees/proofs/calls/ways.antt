-- What the proofs of src/ways.rt use.
pub mod WaysEnds
pub mod WaysFiles
pub mod WaysNamed
pub mod WaysOne
pub mod WaysSearched
pub mod WaysWalked
