-- What the proofs of src/names.rt use.
pub mod AskedNames
pub mod Elsewhere
pub mod GrantedNames
pub mod NamesEnding
pub mod NewOpensEnding
pub mod RemovalsEnding
pub mod Swept
pub mod TreesEnding
