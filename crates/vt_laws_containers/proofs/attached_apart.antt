-- What the proofs of src/footholds.rt use.
pub mod AttachFootholds
pub mod AttachedAsBefore
pub mod Binding
pub mod CopiesHear
pub mod GroupsApart
pub mod GrownAsBefore
pub mod Mounting
pub mod Moving
pub mod OverlayMounting
