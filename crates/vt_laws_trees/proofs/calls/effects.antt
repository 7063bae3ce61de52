-- What the proofs of src/effects.rt use.
pub mod EffectsRights
pub mod EffectsSearched
