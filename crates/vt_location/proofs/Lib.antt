pub mod NumberLemmas
pub mod NodeLemmas
pub mod OrderLemmas
pub mod AskedLemmas
