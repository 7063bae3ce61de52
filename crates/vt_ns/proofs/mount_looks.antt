-- What the proofs of src/mount_looks.rt use.
pub mod Climbing
pub mod LayersLooked
pub mod LayersListed
