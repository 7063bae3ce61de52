-- What the proofs of src/mounted.rt use.
pub mod Again
pub mod Left
pub mod Links
pub mod Reached
pub mod Worlds
pub mod WorldsRaised
