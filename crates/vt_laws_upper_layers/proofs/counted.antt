-- What the proofs of src/counted.rt use.
pub mod Rows
pub mod Uses
