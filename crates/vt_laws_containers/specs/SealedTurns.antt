pub mod MembersTurns
pub mod OutsidersTurns
