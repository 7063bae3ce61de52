-- What the proofs of src/numbers.rt use.
pub mod Allotments
pub mod Cells
pub mod Commuting
pub mod Exchanges
pub mod NamedWorlds
pub mod Renamings
pub mod Rows
pub mod Stages
pub mod Supports
pub mod Texts
