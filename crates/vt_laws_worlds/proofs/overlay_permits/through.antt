-- What the proofs of src/through.rt use.
pub mod CallsThrough
pub mod LayersLater
pub mod LayersOverScripts
pub mod LayersThrough
