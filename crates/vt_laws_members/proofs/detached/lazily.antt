-- What the proofs of src/lazily.rt use.
pub mod Apart
pub mod Cleared
pub mod Detaching
pub mod GoingAlike
pub mod Heirs
pub mod Order
pub mod TakenTwice
pub mod Turns
