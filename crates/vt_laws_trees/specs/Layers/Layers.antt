-- Laws of overlays: what their layers show, and what a change leaves as it was.
pub mod Locked
pub mod Shown
pub mod Untouched
pub mod Upper
pub mod ChangesUpper
pub mod Mounted
pub mod Views
pub mod ShownAfter
pub mod Directories
pub mod DirectoryTrees
pub mod NewOverlays
pub mod Mounting
