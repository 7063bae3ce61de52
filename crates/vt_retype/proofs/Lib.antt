pub mod Retyped
pub mod TypesHanded
pub mod Left
