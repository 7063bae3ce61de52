-- What the proofs of src/attaching.rt use.
pub mod AttachedAlike
pub mod Binding
pub mod CopiesAlike
pub mod Destination
pub mod GrownPart
pub mod GrownReady
pub mod KnownMasters
pub mod MovedAlike
pub mod MovedGrows
pub mod Moving
pub mod PartGrows
pub mod PartServes
pub mod PlainMounting
pub mod PushedUp
pub mod RaisedAlike
pub mod Unused
