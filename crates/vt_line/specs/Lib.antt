pub mod Calls
pub mod Lines
pub mod Names
pub mod Printing
pub mod Tokens
pub mod Versions
