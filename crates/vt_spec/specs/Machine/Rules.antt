-- The rules of each call, as tables in the policy's order over what a world shows (`Looks`): error by error, as the
-- system call's man page has them.
pub mod Conditions
pub mod Looking
pub mod Making
pub mod Removing
pub mod Attributes
pub mod Descriptors
pub mod Tasks
pub mod Mounting
