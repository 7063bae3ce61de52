-- What the proofs of src/namespaces.rt use.
pub mod MayPivot
pub mod Pivoting
pub mod Remade
pub mod RemadeParts
pub mod RemadePartReady
pub mod RemadeRaised
pub mod RemadeReady
pub mod Unshared
pub mod Unsharing
