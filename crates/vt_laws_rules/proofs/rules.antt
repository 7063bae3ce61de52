-- What the proofs of src/rules.rt use.
pub mod CallTables
pub mod Outcomes
pub mod OwnRules
pub mod TableOrder
pub mod WalkRules
