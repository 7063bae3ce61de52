pub mod CallLines
pub mod QueuesValue
