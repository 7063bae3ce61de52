-- What the proofs of src/reaching.rt use.
pub mod LyingUnder
