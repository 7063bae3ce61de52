pub mod Listed
pub mod NodeView
pub mod Ranks
