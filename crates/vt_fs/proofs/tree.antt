pub mod InodeLemmas
pub mod MoveLemmas
pub mod SlotLemmas
pub mod NameCounts
pub mod NamesKept
pub mod NamesListed
pub mod PromisedKept
