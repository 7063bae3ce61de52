-- What the proofs of src/runs.rt use.
pub mod RunsTold
pub mod Seats
