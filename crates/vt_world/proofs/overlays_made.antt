-- What the proofs of src/making.rt use.
pub mod Births
pub mod Made
pub mod Numbers
pub mod Paths
pub mod Serves
pub mod Supplied
