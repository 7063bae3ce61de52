pub mod Lowered
pub mod Births
pub mod Rows
pub mod Naming
pub mod RowsAbove
pub mod SeenAfter
pub mod UnnamedPins
pub mod CountedAbove
