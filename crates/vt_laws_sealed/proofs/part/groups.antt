-- What the proofs of src/groups.rt use.
pub mod EventsApart
pub mod ReceiversAlike
