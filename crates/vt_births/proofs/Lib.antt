pub mod KeptObjects
pub mod Nodes
pub mod NodesAbove
pub mod OneToOne
pub mod Uses
