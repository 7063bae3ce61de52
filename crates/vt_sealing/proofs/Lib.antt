pub mod Lists
pub mod Looked
pub mod Shown
pub mod Sources
