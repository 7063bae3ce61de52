-- What the proofs of src/leaving.rt use.
pub mod Alike
pub mod LayersAlong
pub mod PathsBorn
pub mod NodesKept
pub mod KeptStand
pub mod NodesLeft
pub mod Shown
pub mod ReadOnly
pub mod StoresLeft
