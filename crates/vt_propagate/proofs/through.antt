-- What the proofs of src/through.rt use.
pub mod LookedThrough
