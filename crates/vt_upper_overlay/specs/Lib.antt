pub mod Naming
pub mod UpperValue
pub mod MergedAbove
pub mod Standing
pub mod Lent
pub mod Laws
