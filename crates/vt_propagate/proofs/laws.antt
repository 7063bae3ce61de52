-- What the proofs of src/laws.rt use.
pub mod EndsInTurn
pub mod EndsOrder
pub mod ExitsAtOnce
