-- What the proofs of src/same.rt use.
pub mod SameInUse
pub mod SameInvariants
pub mod SameNumbers
pub mod SameOverlays
pub mod SameWhole
