-- What the proofs of src/held.rt use.
pub mod Grounds
pub mod Meeting
pub mod Holding
pub mod Scripts
