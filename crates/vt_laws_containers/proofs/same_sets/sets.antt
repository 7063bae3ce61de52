-- What the proofs of src/sets.rt use.
pub mod PartsAlike
pub mod SealedAlike
