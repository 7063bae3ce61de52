-- What the proofs of src/seen.rt use.
pub mod AfterCalls
