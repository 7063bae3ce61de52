pub mod Placing
pub mod PlayedLines
pub mod QueuedLines
pub mod ToldTurns
