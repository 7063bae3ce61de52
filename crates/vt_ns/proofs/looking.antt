-- What the proofs of src/looking.rt use.
pub mod Lending
pub mod LooksKept
pub mod LocksLooked
pub mod LostKept
pub mod MarksTold
pub mod OverlaysAt
pub mod OverlaysLooked
pub mod StoreLooked
pub mod UppersAsked
pub mod WaysUp
