-- What the proofs of src/frames.rt use.
pub mod DetachedStay
pub mod FilesystemsGoOn
pub mod FilesystemsUnraised
pub mod NamespacesGoOn
pub mod PivotsRaise
pub mod SameMounts
pub mod ShownAlike
pub mod SweptFilesystems
pub mod Unraised
