-- What the proofs of src/overlaps.rt use.
pub mod Kept
pub mod Nested
pub mod Found
pub mod Live
