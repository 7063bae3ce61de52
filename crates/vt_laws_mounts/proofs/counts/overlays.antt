-- What the proofs of src/overlays.rt use.
pub mod FilesystemUses
pub mod Living
pub mod NamedStay
