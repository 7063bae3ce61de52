-- What the proofs of src/lending.rt use.
pub mod ObjectsLent
