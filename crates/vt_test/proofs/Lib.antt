pub mod GivenLemmas
pub mod SuiteLemmas
pub mod TestedLemmas
