-- What the proofs of src/same_states.rt use.
pub mod PlaysAlike
pub mod TaskNumbers
pub mod TurnsAlike
