pub mod Answered
pub mod InUse
pub mod Runs
pub mod Same
