pub mod Open
pub mod TaskValue
pub mod TasksValue
pub mod Counts
pub mod WorldTasks
