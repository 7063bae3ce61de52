-- What the proofs of src/going.rt use.
pub mod Gone
pub mod Above
pub mod Counted
