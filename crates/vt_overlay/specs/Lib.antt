pub mod Merge
pub mod Alike
pub mod MergedTree
