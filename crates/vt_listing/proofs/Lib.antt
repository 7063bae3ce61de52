pub mod ShownWorlds
pub mod MountLines
pub mod ListedPeers
pub mod MountPaths
