pub mod Meets
pub mod Permitted
pub mod Answered
pub mod KernelValue
pub mod Counting
