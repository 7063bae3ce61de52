pub mod ListLemmas
pub mod OrderLemmas
pub mod EntryLemmas
pub mod IndexLemmas
pub mod WriteLemmas
pub mod PlaceLemmas
pub mod KeptLemmas
pub mod AttachedLemmas
pub mod PointLemmas
pub mod TreeLemmas
mod TreeSearchLemmas
pub mod MoveLemmas
pub mod PivotLemmas
pub mod SourceLemmas
mod RisingLemmas
pub mod CountLemmas
pub mod StandingLemmas
mod ReservedLemmas
mod NotedLemmas
mod MostLemmas
pub mod EnteringLemmas
pub mod ListedLemmas
pub mod NamedLemmas
