-- What holds of the definitions. Each law is the contract of a public function of `laws.rt`.
pub mod Trees
