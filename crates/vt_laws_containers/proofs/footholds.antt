-- What the proofs of src/footholds.rt use.
pub mod PermitFootholds
pub mod AsBefore
pub mod EndsAsBefore
pub mod FilesGoOn
pub mod GoneAsBefore
pub mod Granting
pub mod Mirror
pub mod RemovingPermits
pub mod ReplacedAsBefore
pub mod ServedCalls
pub mod TakenAsBefore
pub mod TakingPermits
pub mod TasksAsBefore
pub mod TasksPermits
