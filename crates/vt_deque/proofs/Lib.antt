pub mod DequeLemmas
