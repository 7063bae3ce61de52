pub mod TasksNamed
pub mod Plain
pub mod Raised
pub mod RaisedInUse
