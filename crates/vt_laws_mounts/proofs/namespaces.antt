-- What the proofs of src/namespaces.rt use.
pub mod MountsInvariants
pub mod Pivoting
pub mod PivotingCounts
pub mod Topmost
pub mod Unsharing
pub mod UnsharingNamespaces
