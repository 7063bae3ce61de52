mod LineLemmas
pub mod Printing
