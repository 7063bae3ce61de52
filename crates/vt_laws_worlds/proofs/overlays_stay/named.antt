-- What the proofs of src/named.rt use.
pub mod SeenNames
