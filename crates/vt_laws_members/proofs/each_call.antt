-- What the proofs of src/each_call.rt use.
pub mod EachCall
