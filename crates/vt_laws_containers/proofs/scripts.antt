-- What the proofs of src/sealed_scripts/scripts.rt use.
pub mod AnsweredAlike
pub mod Called
pub mod CallsAlike
pub mod LineNumbers
pub mod Standing
pub mod UsedThere
