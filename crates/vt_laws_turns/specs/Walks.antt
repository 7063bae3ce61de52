pub mod Asked
pub mod ByWords
pub mod HalfWalks
pub mod Routes
pub mod Walkers
