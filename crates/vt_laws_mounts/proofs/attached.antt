-- What the proofs of src/attached.rt use.
pub mod AttachedGroups
pub mod AttachedKept
pub mod AttachedMasters
pub mod AttachedNowhere
pub mod AttachedTypes
pub mod Attaching
pub mod BindsStand
pub mod Covers
pub mod Grafted
pub mod GraftedPlaces
pub mod TreesCopied
