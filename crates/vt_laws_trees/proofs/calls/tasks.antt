-- What the proofs of src/tasks.rt use.
pub mod TasksFound
pub mod TasksLaws
pub mod TasksLeft
pub mod TasksOwn
