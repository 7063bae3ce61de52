-- What the proofs of src/walks.rt use.
pub mod StepsAgree
pub mod WalksAgree
