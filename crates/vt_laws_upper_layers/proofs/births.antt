-- What the proofs of src/births.rt use.
pub mod Changing
pub mod Copying
pub mod Found
pub mod Kept
pub mod Named
pub mod Swept
