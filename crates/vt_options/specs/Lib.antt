pub mod OptionValue
