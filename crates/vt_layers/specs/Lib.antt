pub mod LayerConditions
pub mod LayersValue
pub mod MountValue
