-- What an unmount leaves of the attachment of one mount: the laws of `an_unmount_undoes_a_mount` and of the crate above
-- stand on it.
pub mod Attached
pub mod Back
pub mod Leaving
