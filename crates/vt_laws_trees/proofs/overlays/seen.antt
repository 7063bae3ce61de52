-- What the proofs of src/seen.rt use.
pub mod NamedTrees
pub mod Paths
pub mod SeenTrees
