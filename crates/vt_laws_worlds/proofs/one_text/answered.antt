-- What the proofs of src/answered.rt use.
pub mod AlikeAnswered
pub mod CopiesOfWorlds
