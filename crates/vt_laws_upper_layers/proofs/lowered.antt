-- What the proofs of src/lowered.rt use.
pub mod Alike
pub mod Counted
pub mod InUse
pub mod Swept
pub mod Unnamed
pub mod UnnamedSwept
