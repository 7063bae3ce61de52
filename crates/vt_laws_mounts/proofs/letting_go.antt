pub mod Chains
pub mod Lists
pub mod SweptBetween
pub mod Trees
