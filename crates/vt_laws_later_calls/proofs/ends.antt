-- What the proofs of src/ends.rt use.
pub mod EndedBy
pub mod OtherCalls
pub mod OverlaysRemain
pub mod Replaced
pub mod SweptWhiteouts
pub mod WithoutOverlays
