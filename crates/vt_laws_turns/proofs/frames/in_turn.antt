-- What the proofs of src/in_turn.rt use.
pub mod NumbersRise
pub mod FilesystemsRise
pub mod MountsStoodOn
