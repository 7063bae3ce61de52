-- What the proofs of src/looks.rt use.
pub mod Granted
pub mod Listed
pub mod Told
