-- What the proofs of src/judged.rt use.
pub mod CallsJudged
pub mod LooksAlike
pub mod NumbersRaised
