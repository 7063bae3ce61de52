pub mod NewOverlays
pub mod OverlayChanges
pub mod OverlayCalls
pub mod OverlayNames
pub mod NamesGiven
