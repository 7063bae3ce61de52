pub mod Caps
pub mod Rights
pub mod MountFlags
pub mod Access
