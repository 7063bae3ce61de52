-- What the proofs of src/used.rt use.
pub mod NoLayers
pub mod Unnamed
