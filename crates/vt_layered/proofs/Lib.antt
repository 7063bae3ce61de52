pub mod ObjectsLayered
pub mod Parts
pub mod Staying
pub mod StayingKinds
pub mod LocationsCounted
pub mod UsesUnseen
