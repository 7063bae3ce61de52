pub mod Numbers
pub mod Births
pub mod Fronts
pub mod Locations
pub mod MountValue
pub mod NodeNumbers
pub mod SameNodes
pub mod InOrder
