-- What the proofs of src/worlds.rt use.
pub mod EveryCall
pub mod EveryScript
pub mod HiddenLater
pub mod LowersAfterCalls
pub mod LowersGoOn
pub mod LowersOverScripts
pub mod MountedScripts
pub mod NewPlain
pub mod OverlaysGoOn
pub mod PlainChanges
pub mod PolicyLeads
pub mod SweptInodes
pub mod SweptOverlays
pub mod SweptTrees
pub mod SweptWorlds
