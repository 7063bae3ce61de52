-- What the proofs of src/rows.rt use.
pub mod Above
pub mod Emptied
pub mod Freed
pub mod Left
