-- What the proofs of src/handed.rt use.
pub mod Counts
pub mod InodesAllotted
