-- What the proofs of src/given.rt use.
pub mod CallsGranted
pub mod GivenPermits
pub mod Inversion
pub mod Ways
