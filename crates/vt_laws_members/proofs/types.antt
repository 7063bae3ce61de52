-- What the proofs of src/types.rt use.
pub mod Inherited
pub mod Retyped
pub mod TypesLeft
pub mod Retyping
