pub mod Overlapping
pub mod LiveLayers
pub mod Locked
pub mod Overlapped
pub mod Written
