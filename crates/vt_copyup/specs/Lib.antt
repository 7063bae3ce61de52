pub mod Copied
pub mod CopiedView
pub mod ForkLaws
pub mod Forks
pub mod Laws
pub mod Made
pub mod Planned
pub mod Plans
