-- What the proofs of src/tables.rt use.
pub mod UnsharedLeft
pub mod UnsharedListed
