-- What the proofs of src/dated.rt use.
pub mod AnsweredAlike
pub mod ChangeStays
pub mod ChangedAlike
pub mod Followed
pub mod NamespacesDated
pub mod SameDates
pub mod TasksDated
