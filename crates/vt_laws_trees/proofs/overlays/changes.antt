-- What the proofs of src/changes.rt use.
pub mod WholeHidden
pub mod WholeLater
pub mod WholeLowers
pub mod WholeOthers
pub mod WholeTogether
pub mod WholeWorlds
