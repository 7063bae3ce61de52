pub mod LayeredValue
pub mod LayeredTree
pub mod Staying
pub mod Pins
pub mod Locations
pub mod Unseen
