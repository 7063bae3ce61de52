-- What the proofs of src/members_turns.rt use.
pub mod EachTurn
pub mod OtherQueues
pub mod Beside
pub mod Called
pub mod OthersOut
pub mod InRounds
pub mod ScriptQueues
pub mod InSchedules
