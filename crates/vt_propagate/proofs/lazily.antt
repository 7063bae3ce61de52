-- What the proofs of src/lazily.rt use.
pub mod LazyOrder
pub mod LazySteps
pub mod Looks
pub mod Over
pub mod ReceiversLeft
