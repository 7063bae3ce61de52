pub mod Placed
pub mod Played
