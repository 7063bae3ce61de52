-- What the proofs of src/one_text.rt use.
pub mod Behind
pub mod TurnsApart
pub mod Renamed
pub mod FewGroups
pub mod Joints
pub mod SchedulesTold
