-- What the proofs of src/files.rt use.
pub mod Edits
pub mod FilesChanged
pub mod FilesEnding
pub mod FilesInUse
pub mod FilesRaised
pub mod OneFilesystem
pub mod PartWritten
pub mod StepsInUse
