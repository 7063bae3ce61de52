-- What the proofs of src/entering.rt use.
pub mod RootMounts
