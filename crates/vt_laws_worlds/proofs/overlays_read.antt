-- What the proofs of src/writers.rt use.
pub mod Changes
pub mod Kept
pub mod Scripts
pub mod Swept
