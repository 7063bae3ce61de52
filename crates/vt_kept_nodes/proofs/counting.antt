-- What the proofs of src/counting.rt use.
pub mod Changed
pub mod CountedOn
pub mod LeftOf
