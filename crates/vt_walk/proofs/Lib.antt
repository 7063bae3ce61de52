mod Chains
mod NodeLemmas
mod RefusalLemmas
mod LeftToRight
mod Depths
mod LinksWalked
mod PendingWalked
mod Trails
mod WalksOfPaths
mod FilesWalked
pub mod WalkEnds
