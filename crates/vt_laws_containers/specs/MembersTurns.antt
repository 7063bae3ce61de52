pub mod Rounds
pub mod Schedules
pub mod TheirTurns
