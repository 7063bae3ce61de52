pub mod Given
pub mod Suite
pub mod Tested
