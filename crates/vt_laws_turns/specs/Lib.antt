pub mod Commits
pub mod Restarts
pub mod Frames
pub mod Walks
pub mod Holds
pub mod Dated
pub mod Alike
pub mod SameStates
