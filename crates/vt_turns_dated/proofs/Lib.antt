pub mod Ending
pub mod Opening
pub mod Walking
