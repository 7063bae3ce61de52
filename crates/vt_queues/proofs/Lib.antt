pub mod FirstTokens
pub mod Meant
pub mod Places
pub mod Shortening
