pub mod Trees
pub mod Calls
pub mod Runs
pub mod Layers
pub mod Overlays
