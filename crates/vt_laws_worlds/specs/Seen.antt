pub mod InodeUses
pub mod CopySteps
pub mod SweptBefore
