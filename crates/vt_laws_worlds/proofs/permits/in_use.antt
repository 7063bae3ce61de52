-- What the proofs of src/in_use.rt use.
pub mod InUseServes
