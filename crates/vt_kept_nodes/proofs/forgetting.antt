-- What the proofs of src/forgetting.rt use.
pub mod Forgotten
pub mod LookedAt
