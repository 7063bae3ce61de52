-- What the proofs of src/footholds.rt use.
pub mod UnshareFootholds
pub mod UnsharedAsBefore
pub mod Unsharing
