pub mod LayerValue
pub mod Climbed
pub mod EntryValue
