-- What the proofs of src/changing.rt use.
pub mod Added
pub mod Copied
pub mod MountsOfOthers
pub mod NamesCopied
pub mod NamesFree
pub mod NamesGiven
pub mod NamesLost
pub mod OverlayCalls
pub mod OverlaysChanged
