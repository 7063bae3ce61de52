-- What the proofs of src/locked.rt use.
pub mod Apart
pub mod Change
pub mod EachCall
pub mod EveryCall
pub mod Layers
pub mod Paths
pub mod Walks
