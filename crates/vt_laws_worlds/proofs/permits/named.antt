-- What the proofs of src/named.rt use.
pub mod NamedPermits
pub mod PermitsKeepTo
