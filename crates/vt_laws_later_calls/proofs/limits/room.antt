-- What the proofs of src/room.rt use.
pub mod Counted
pub mod Refused
pub mod Made
