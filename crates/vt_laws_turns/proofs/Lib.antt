pub mod Common
pub mod TurnKinds
pub mod TurnShapes
