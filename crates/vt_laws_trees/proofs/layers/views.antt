-- What the proofs of src/views.rt use.
pub mod After
pub mod Lower
pub mod Entries
pub mod Fronts
pub mod Moves
pub mod Names
pub mod Stay
pub mod Walks
