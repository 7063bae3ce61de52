-- What the proofs of src/leaving.rt use.
pub mod Detached
pub mod FilesChanged
pub mod LeftOneByOne
pub mod LeftWithOverlays
pub mod MountsAdded
pub mod NamesKept
pub mod PlacesLeft
pub mod Retyped
pub mod TaskCalls
pub mod TreesChanged
pub mod TreesWithOverlays
pub mod UsedBefore
pub mod UsesKept
