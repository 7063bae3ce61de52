-- What the proofs of src/full_namespace.rt use.
pub mod FilledNamespace
pub mod FullReceiver
pub mod ReceiverFilled
pub mod ReceiverRoom
pub mod ReceiverWorld
