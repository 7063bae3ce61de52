-- What the proofs of src/same.rt use.
pub mod SameFiles
pub mod SameJudged
pub mod SameLooks
pub mod SameMany
pub mod SameNames
