pub mod RefusedLemmas
pub mod ReplyLemmas
pub mod RunLemmas
pub mod SessionLemmas
pub mod ToldLemmas
