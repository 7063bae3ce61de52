pub mod BitLemmas
pub mod AccessLemmas
