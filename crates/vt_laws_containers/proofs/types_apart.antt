-- What the proofs of src/footholds.rt use.
pub mod TypeFootholds
pub mod GroupsApart
pub mod Retyping
pub mod TypesAsBefore
