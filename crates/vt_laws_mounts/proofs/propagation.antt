-- What the proofs of src/propagation.rt use.
pub mod OneAttached
pub mod PropagationAbove
pub mod PropagationAttaching
pub mod PropagationCopies
pub mod PropagationHeard
pub mod PropagationImages
pub mod PropagationPremises
pub mod PropagationTypes
pub mod PropagationUp
pub mod undone
