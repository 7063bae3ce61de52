-- What the proofs of src/tasks.rt use.
pub mod ByPermit
pub mod Denied
pub mod Ending
pub mod Forking
pub mod MoreLocations
pub mod OpenedFiles
pub mod Opening
pub mod RaisedTasks
pub mod Retasked
pub mod Rights
pub mod WholeMounts
