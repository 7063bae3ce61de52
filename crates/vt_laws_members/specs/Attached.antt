pub mod Attaching
