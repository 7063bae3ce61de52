-- What all sets of definitions share: the calls, the text of scripts and answers, changes of a tree, and limits.
pub mod Calls
pub mod Script
pub mod Answers
pub mod Printed
pub mod Changes
pub mod Limits
