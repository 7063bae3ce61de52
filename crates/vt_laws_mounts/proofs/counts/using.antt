-- What the proofs of src/using.rt use.
pub mod Exchanged
pub mod MountRoots
pub mod Places
pub mod Sweeps
pub mod Swept
