-- What the proofs of src/kept.rt use.
pub mod MountsAlike
pub mod MountsKept
pub mod MountsKeptAttaching
pub mod NamespacesEnding
pub mod NamespacesKept
pub mod NamespacesListed
pub mod NamespacesTasks
