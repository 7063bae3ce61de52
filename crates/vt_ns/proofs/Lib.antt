mod Common
pub mod Granting
pub mod LayersInUse
pub mod MountLooks
pub mod Overfilling
pub mod WithoutUppers
pub mod WorldSeen
pub mod CountingLemmas
pub mod RetypedMounts
