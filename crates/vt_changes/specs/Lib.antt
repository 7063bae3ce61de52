pub mod DatedValue
pub mod Ends
pub mod Following
pub mod Kept
pub mod SeenMounts
