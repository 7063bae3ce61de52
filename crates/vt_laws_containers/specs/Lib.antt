pub mod Footholds
pub mod PermitFootholds
pub mod Scripts
pub mod SealedScripts
pub mod SameSets
pub mod SealedTurns
pub mod MembersTurns
