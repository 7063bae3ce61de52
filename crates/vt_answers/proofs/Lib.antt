pub mod CountersSmall
pub mod ChangeNumbers
pub mod SpareNumbers
