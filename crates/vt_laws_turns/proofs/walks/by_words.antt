-- What the proofs of src/by_words.rt use.
pub mod Depths
pub mod Files
pub mod Meanings
pub mod Counting
pub mod Whole
pub mod Routed
pub mod Asked
