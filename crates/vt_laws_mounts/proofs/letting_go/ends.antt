-- What the proofs of src/ends.rt use.
pub mod EndsInTurn
pub mod NamespacesEnd
pub mod TasksEnd
