pub mod TypeChanges
