-- What the proofs of src/same_sets/turns.rt use.
pub mod SealedToo
