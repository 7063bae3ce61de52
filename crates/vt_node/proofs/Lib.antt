pub mod KeptNames
pub mod ListedLemmas
pub mod Moved
pub mod Named
pub mod RankLemmas
pub mod SortedNames
pub mod ByteLemmas
