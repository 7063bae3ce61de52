pub mod UpperChanges
pub mod UpperCalls
pub mod BelowChanges
pub mod MountedAnew
