-- What the proofs of src/directories.rt use.
pub mod Apart
pub mod Lower
pub mod Fit
pub mod Later
pub mod Merged
pub mod Order
pub mod Still
pub mod Tree
pub mod Under
