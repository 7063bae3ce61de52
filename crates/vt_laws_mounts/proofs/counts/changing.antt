-- What the proofs of src/changing.rt use.
pub mod Changes
pub mod KeptAll
pub mod NameCounts
pub mod Rows
pub mod SameAfter
pub mod TreeCounts
