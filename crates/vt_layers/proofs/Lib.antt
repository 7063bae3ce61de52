pub mod GrantLemmas
pub mod JudgeLemmas
pub mod RuleLemmas
pub mod WalkLemmas
