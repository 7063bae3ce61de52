-- What the proofs of src/kept.rt use.
pub mod NumbersRise
pub mod OverlaysLeft
pub mod OverlaysSwept
pub mod TreesStay
