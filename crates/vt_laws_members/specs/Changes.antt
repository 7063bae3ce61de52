pub mod Changes
pub mod NameChanges
pub mod LettingGo
pub mod MountChanges
pub mod OverlayEdits
pub mod Parts
