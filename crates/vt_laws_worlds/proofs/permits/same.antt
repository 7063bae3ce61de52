-- What the proofs of src/same.rt use.
pub mod SamePlain
