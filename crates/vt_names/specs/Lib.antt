pub mod NamesValue
pub mod Pairs
pub mod Answers
pub mod Says
